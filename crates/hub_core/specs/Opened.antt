-- Defines what opening an upload gives: its interchange or the code of its fault, if there was enough memory.
use Rattle.std.specs.Borrow.{Bor}
use Rattle.std.specs.Prelude.{◌≡◌, ◌⊎◌, ⊤, ℕ, List, [], Result, Ok, Err}
use Rattle.edi_segments.specs.declared.fault.TokenFault.TheVariants as token
use Rattle.edi_envelope.specs.declared.fault.EnvelopeFault.TheVariants as envelope
use Rattle.edi_envelope.specs.declared.fault.OpenFault.{OpenFault}
use Rattle.edi_envelope.specs.declared.fault.OpenFault.TheVariants.{Token, Envelope}
use Rattle.edi_envelope.specs.declared.interchange.Interchange.{Interchange}
use Rattle.hub_law.specs.Opening.{Opened}
use Rattle.hub_law.specs.Replies.{reply, stopped}
use Rattle.hub_requests.specs.declared.reply.Outcome.TheVariants.{Stopped}
use Rattle.hub_requests.specs.declared.reply.Reply.{Reply}

abbrev pub with_code : Result Interchange (Bor (List ℕ)) → Opened
with_code (Ok interchange) = Ok interchange
with_code (Err code) = Err code.now

-- memory ran out, for the text or for the envelope
abbrev pub OfMemory : OpenFault → Type 0
OfMemory fault = (fault ≡ Token token.Memory) ⊎ (fault ≡ Envelope envelope.Memory)

abbrev pub HasCode : OpenFault → Type 0
HasCode fault = OfMemory fault → ⊥

-- the upload was opened, or has a fault other than out of memory
abbrev pub Sufficed : Result Interchange OpenFault → Type 0
Sufficed (Ok interchange) = ⊤
Sufficed (Err fault) = HasCode fault

-- memory ran out while the upload was opened
abbrev pub RanOut : Result Interchange OpenFault → Type 0
RanOut (Ok interchange) = ⊥
RanOut (Err fault) = OfMemory fault

-- the reply to a request stopped before anything was done: the word alone, or nothing if there is no memory for it
abbrev pub IsStopped : Reply → Type 0
IsStopped r = (r ≡ stopped) ⊎ (r ≡ reply Stopped [])

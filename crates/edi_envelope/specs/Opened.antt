-- What the bytes of a text are opened as: its interchange, or why there is none.
use Rattle.std.specs.Prelude.{◌≡◌, ℕ, List, Option, Some, None, Result, Ok, Err}
use Rattle.edi_segments.specs.declared.segment.Tokens.{Tokens}
use Rattle.edi_segments.specs.declared.fault.TokenFault.{TokenFault}
use Rattle.edi_segments.specs.declared.fault.TokenFault.TheVariants as token
use Rattle.edi_segments.specs.Code.{code_text as token_code}
use Rattle.edi_segments.specs.Reading.{tokens_of}
use Rattle.edi_envelope.specs.declared.fault.EnvelopeFault.{EnvelopeFault}
use Rattle.edi_envelope.specs.declared.fault.EnvelopeFault.TheVariants as envelope
use Rattle.edi_envelope.specs.declared.fault.OpenFault.{OpenFault}
use Rattle.edi_envelope.specs.declared.fault.OpenFault.TheVariants.{Token, Envelope}
use Rattle.edi_envelope.specs.declared.interchange.Interchange.{Interchange}
use Rattle.edi_envelope.specs.Fault.{code_text as envelope_code}
use Rattle.edi_envelope.specs.Interchange.{interchange_of}

abbrev pub checked_as : Result Interchange EnvelopeFault → Result Interchange OpenFault
checked_as (Ok interchange) = Ok interchange
checked_as (Err fault) = Err (Envelope fault)

abbrev pub read_as : Result Tokens TokenFault → Result Interchange OpenFault
read_as (Ok tokens) = checked_as (interchange_of tokens)
read_as (Err fault) = Err (Token fault)

-- the interchange of a text, or its fault; a token fault is reported rather than an envelope fault
abbrev pub opened : List ℕ → Result Interchange OpenFault
opened bytes = read_as (tokens_of bytes)

-- the code of a fault
abbrev pub code_text : OpenFault → List ℕ
code_text (Token fault) = token_code fault
code_text (Envelope fault) = envelope_code fault

-- what was answered is this, unless a read failed or memory ran out, which is no fault of a token
abbrev pub Opens : Result Interchange OpenFault → Result Interchange OpenFault → Type 0
Opens (Ok interchange) given = given ≡ Ok interchange
Opens (Err (Token token.Read)) given = Unit {0}
Opens (Err (Token fault)) given = given ≡ Err (Token fault)
Opens (Err (Envelope envelope.Memory)) given = Unit {0}
Opens (Err (Envelope fault)) given = given ≡ Err (Envelope fault)

-- the token fault that was answered, if it was one
abbrev pub token_told : {X : Type 0} → Result X OpenFault → Option TokenFault
token_told (Ok x) = None
token_told (Err (Token fault)) = Some fault
token_told (Err (Envelope fault)) = None

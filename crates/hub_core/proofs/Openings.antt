-- Proves what opening an upload gives.
use Rattle.std.proofs.Common.{◌≡◌, ◌≢◌, inl, inr, ℕ, List, Result, Ok, Err, refl, ap, ◌∙◌}
use Rattle.edi_segments.specs.Reading.{tokens_of, GivesFault}
use Rattle.edi_segments.specs.declared.fault.TokenFault.{TokenFault}
use Rattle.edi_segments.specs.declared.fault.TokenFault.TheVariants as token
use Rattle.edi_segments.specs.declared.segment.Tokens.{Tokens}
use Rattle.edi_envelope.specs.Interchange.{interchange_of}
use Rattle.edi_envelope.specs.Opened.{checked_as, read_as, opened, Opens}
use Rattle.edi_envelope.specs.declared.fault.EnvelopeFault.{EnvelopeFault}
use Rattle.edi_envelope.specs.declared.fault.EnvelopeFault.TheVariants as envelope
use Rattle.edi_envelope.specs.declared.fault.OpenFault.{OpenFault}
use Rattle.edi_envelope.specs.declared.fault.OpenFault.TheVariants.{Token, Envelope}
use Rattle.edi_envelope.specs.declared.interchange.Interchange.{Interchange}
use Rattle.hub_law.specs.Opening.{told_as, interchange_in}
use Rattle.hub_core.specs.Opened.{HasCode, Sufficed, RanOut}

fails_is : (fault : TokenFault) (given : Result Tokens TokenFault) → (fault ≢ token.Memory) → GivesFault fault given → given ≡ Err fault
fails_is token.TooLong given not_memory fails = fails
fails_is token.ServiceString given not_memory fails = fails
fails_is token.Byte given not_memory fails = fails
fails_is token.Cut given not_memory fails = fails
fails_is token.Tag given not_memory fails = fails
fails_is token.LongSegment given not_memory fails = fails
fails_is token.Read given not_memory fails = fails
fails_is token.Memory given not_memory fails = absurd (not_memory refl)

-- the fault of an upload's bytes
pub token_fault : (bytes : List ℕ) (fault : TokenFault) → HasCode (Token fault) → GivesFault fault (tokens_of bytes)
    → interchange_in bytes ≡ told_as (Err (Token fault))
unfolding interchange_in
token_fault bytes fault has fails =
    ap (λ given. told_as (read_as given)) (fails_is fault (tokens_of bytes) (λ e. has (inl (ap (λ fault. Token fault) e))) fails)

pub envelope_fault : (bytes : List ℕ) (tokens : Tokens) (fault : EnvelopeFault)
    → tokens_of bytes ≡ Ok tokens
    → HasCode (Envelope fault)
    → (fault ≢ envelope.Memory → interchange_of tokens ≡ Err fault)
    → interchange_in bytes ≡ told_as (Err (Envelope fault))
unfolding interchange_in
envelope_fault bytes tokens fault e has fails =
    ap (λ given. told_as (read_as given)) e
    ∙ ap (λ given. told_as (checked_as given)) (fails (λ e. has (inr (ap (λ fault. Envelope fault) e))))

pub opened_well : (bytes : List ℕ) (tokens : Tokens) (interchange : Interchange)
    → tokens_of bytes ≡ Ok tokens
    → interchange_of tokens ≡ Ok interchange
    → interchange_in bytes ≡ told_as (Ok interchange)
unfolding interchange_in
opened_well bytes tokens interchange e f =
    ap (λ given. told_as (read_as given)) e ∙ ap (λ given. told_as (checked_as given)) f

-- an upload that was opened before, for some bytes
opens_text : (fault : TokenFault) (given : Result Interchange OpenFault)
    → fault ≢ token.Read
    → HasCode (Token fault)
    → Opens (Err (Token fault)) given
    → given ≡ Err (Token fault)
opens_text token.TooLong given read has opens = opens
opens_text token.ServiceString given read has opens = opens
opens_text token.Byte given read has opens = opens
opens_text token.Cut given read has opens = opens
opens_text token.Tag given read has opens = opens
opens_text token.LongSegment given read has opens = opens
opens_text token.Read given read has opens = absurd (read refl)
opens_text token.Memory given read has opens = absurd (has (inl refl))

opens_segments : (fault : EnvelopeFault) (given : Result Interchange OpenFault)
    → HasCode (Envelope fault)
    → Opens (Err (Envelope fault)) given
    → given ≡ Err (Envelope fault)
opens_segments envelope.InterchangeFrame given has opens = opens
opens_segments envelope.InterchangeHeader given has opens = opens
opens_segments envelope.MessageFrame given has opens = opens
opens_segments envelope.MessageHeader given has opens = opens
opens_segments envelope.SegmentCount given has opens = opens
opens_segments envelope.MessageReference given has opens = opens
opens_segments envelope.MessageCount given has opens = opens
opens_segments envelope.ControlReference given has opens = opens
opens_segments envelope.RepeatedReference given has opens = opens
opens_segments envelope.TestIndicator given has opens = opens
opens_segments envelope.TooManyMessages given has opens = opens
opens_segments envelope.CharacterSet given has opens = opens
opens_segments envelope.Memory given has opens = absurd (has (inr refl))

opens_as : (upload given : Result Interchange OpenFault) → upload ≢ Err (Token token.Read) → Sufficed upload → Opens upload given
    → given ≡ upload
opens_as (Ok interchange) given read has opens = opens
opens_as (Err (Token fault)) given read has opens =
    opens_text fault given (λ e. read (ap (λ fault. Err (Token fault)) e)) has opens
opens_as (Err (Envelope fault)) given read has opens = opens_segments fault given has opens

pub opened_before : (bytes : List ℕ) (upload : Result Interchange OpenFault)
    → upload ≢ Err (Token token.Read)
    → Sufficed upload
    → Opens upload (opened bytes)
    → interchange_in bytes ≡ told_as upload
unfolding interchange_in
opened_before bytes upload read has opens = ap told_as (opens_as upload (opened bytes) read has opens)

pub ran_out : (upload : Result Interchange OpenFault) → RanOut upload → Sufficed upload → ⊥
ran_out (Ok interchange) out has = out
ran_out (Err fault) out has = has out

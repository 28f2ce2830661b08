-- How far a text has been read, and its mail texts are written.
use Rattle.std.specs.Prelude.{◌≡◌, ◌≢◌, ℕ, Bool, true, List, [], Option, Some, None, Result, Ok, Err}
use Rattle.edi_segments.specs.declared.segment.Segment.{Segment}
use Rattle.edi_segments.specs.declared.segment.Tokens.{Tokens}
use Rattle.edi_tokens.specs.declared.lender.Lender.{Lender}
use Rattle.edi_segments.specs.declared.fault.TokenFault.{TokenFault}
use Rattle.edi_segments.specs.declared.fault.TokenFault.TheVariants as token
use Rattle.edi_segments.specs.Reading.{tokens_of}
use Rattle.edi_segments.specs.Machine.{tokens_at}
use Rattle.edi_tokens.specs.Lender.{AtEnd, Fed, HasCause, TakesOf, room_of, stopped}
use Rattle.edi_envelope.specs.declared.fault.EnvelopeFault.{EnvelopeFault}
use Rattle.edi_envelope.specs.declared.interchange.Interchange.{Interchange}
use Rattle.edi_envelope.specs.Check.{Checked, is_fine}
use Rattle.edi_relay.specs.declared.relay.RelayWords.{RelayWords}
use Rattle.edi_relay.specs.declared.relay.RelayFault.{RelayFault}
use Rattle.edi_relay.specs.declared.relay.RelayFault.TheVariants.{Token, Envelope, Memory}
use Rattle.edi_relay.specs.declared.relaying.Relaying.{Relaying}
use Rattle.edi_relay.specs.Relay.{mail_texts, relayed}
use Rattle.edi_relay.specs.Mails.{WritesMails}

-- the check of segments, and what is written of them as long as no fault is certain
pub record RelayingStands (words : RelayWords) (mark : ℕ) (lent : List Segment) (relaying : Relaying) : Type 0 where
  pub checked : Checked lent relaying.check
  pub kept : is_fine relaying.check ≡ true → WritesMails words mark lent relaying.mails

-- what was answered of an interchange with this decimal mark is this
abbrev pub IsMailed : {X : Type 0} → RelayWords → (X → List ℕ) → Result X EnvelopeFault → Result Interchange EnvelopeFault → Type 0
IsMailed words view (Ok out) given =
    (i : Interchange) × (given ≡ Ok i) × (view out ≡ mail_texts words i.decimal words.number i.messages)
IsMailed words view (Err fault) given = given ≡ Err fault

-- if the text spells segments, the check of those that were lent, and what is written with the text's decimal mark
abbrev pub StandsBy : RelayWords → Option (List ℕ) → Lender → List Segment → Relaying → Type 0
StandsBy words known old lent relaying =
    (all : List ℕ) (tokens : Tokens) → Fed known all [] old → tokens_of all ≡ Ok tokens
    → RelayingStands words tokens.service.decimal lent relaying

-- all segments of a text are relayed, or its token fault is reported, or a read failed, or memory ran out
abbrev pub ReadsRelaying : RelayWords → Option (List ℕ) → Lender → Result Relaying RelayFault → Lender → Type 0
ReadsRelaying words known old (Ok relaying) new =
    (lent : List Segment) × StandsBy words known old lent relaying
    × ((all : List ℕ) → Fed known all [] old → tokens_of all ≡ Ok (tokens_at lent new.machine))
ReadsRelaying words known old (Err (Token fault)) new =
    (all : List ℕ) → Fed known all [] old → fault ≢ token.Read → relayed all words ≡ Err (Token fault)
ReadsRelaying words known old (Err (Envelope fault)) new = ⊥
ReadsRelaying words known old (Err Memory) new = Unit {0}

-- a failed read is reported if the reader's flag is up, and otherwise the flag stays
abbrev pub RelayFaultHasCause : {X : Type 0} → Result X RelayFault → Bool → Bool → Type 0
RelayFaultHasCause (Ok x) old new = new ≡ old
RelayFaultHasCause (Err (Token fault)) old new = HasCause fault old new
RelayFaultHasCause (Err (Envelope fault)) old new = new ≡ old
RelayFaultHasCause (Err Memory) old new = new ≡ old

-- how far a text has been read
pub record HasRelayed (words : RelayWords) (before after : Option (List ℕ)) (was failed : Bool) (old : Lender)
    (relaying : Relaying) (new : Lender) : Type 0 where
  pub lent : List Segment
  pub stands : StandsBy words before old lent relaying
  pub fed : (all : List ℕ) → Fed before all [] old → Fed after all lent new
  pub flag : stopped old ≡ None → failed ≡ was
  pub going : stopped old ≡ None → stopped new ≡ None
  pub bound : TakesOf before after (room_of old) (room_of new)
  pub ends : AtEnd before old → AtEnd after new

-- the token fault by which a lender is stopped after the answer, if it had stopped by this one before, or by none
abbrev pub stopped_after : {X : Type 0} → Result X RelayFault → Option TokenFault → Option TokenFault
stopped_after (Ok x) was = None
stopped_after (Err (Token fault)) was = Some fault
stopped_after (Err (Envelope fault)) was = None
stopped_after (Err Memory) was = was

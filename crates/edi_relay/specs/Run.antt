-- What a run of `relay` between a reader and two writers does, by the bytes that are known of each.
use Rattle.std.specs.Prelude.{◌≡◌, ℕ, ◌+◌, Bool, List, ◌++◌, take, codes, Option, IfSome, Result, Ok, Err}
use Rattle.std.specs.Io.KnownBytes.{Appends, Consumes}
use Rattle.edi_base.specs.Source.{TakesAtMost}
use Rattle.edi_base.specs.Buffer.{AppendsFront}
use Rattle.edi_segments.specs.Spelling.{text_limit}
use Rattle.edi_relay.specs.declared.relay.RelayWords.{RelayWords}
use Rattle.edi_relay.specs.declared.relay.RelayFault.{RelayFault}
use Rattle.edi_segments.specs.declared.fault.TokenFault.TheVariants as token
use Rattle.edi_relay.specs.declared.relay.RelayFault.TheVariants.{Token, Envelope, Memory}
use Rattle.edi_relay.specs.Relay.{relayed, code_of, RelaysRead}
use Rattle.edi_relay.specs.Relaying.{RelayFaultHasCause}

-- one byte more than the longest text is read, so that a longer one shows
abbrev pub read_limit : ℕ
read_limit = text_limit + 1

-- what was read is relayed, and the mail texts were written
abbrev pub Delivers : Option (List ℕ) → RelayWords → Option (List ℕ) → Option (List ℕ) → Type 0
Delivers known words old new =
    IfSome known (λ bytes. (mail : List ℕ) × (relayed (take read_limit bytes) words ≡ Ok mail) × Appends old new mail)

-- what was read is relayed, and a prefix of the mail texts was written
abbrev pub DeliversFront : Option (List ℕ) → RelayWords → Option (List ℕ) → Option (List ℕ) → Type 0
DeliversFront known words old new =
    IfSome known (λ bytes. (mail : List ℕ) × (relayed (take read_limit bytes) words ≡ Ok mail)
    × AppendsFront old new mail)

-- what was read is refused
abbrev pub IsRefused : Option (List ℕ) → RelayWords → RelayFault → Type 0
IsRefused known words fault = IfSome known (λ bytes. relayed (take read_limit bytes) words ≡ Err fault)

abbrev pub refusal : RelayFault → List ℕ
refusal fault = codes "refused " ++ (code_of fault ++ codes "\n")

-- a fact, unless a read failed or memory ran out
abbrev pub IfToEnd : {X : Type 0} → Result X RelayFault → Type 0 → Type 0
IfToEnd (Ok x) fact = fact
IfToEnd (Err (Token token.Read)) fact = Unit {0}
IfToEnd (Err (Token fault)) fact = fact
IfToEnd (Err (Envelope fault)) fact = fact
IfToEnd (Err Memory) fact = Unit {0}

-- What was read from a reader, and relayed: at most this many bytes, and all of them unless a read failed or memory ran
-- out.
pub record Ran {X : Type 0} (view : X → List ℕ) (words : RelayWords) (before after : Option (List ℕ)) (was failed : Bool)
    (result : Result X RelayFault) : Type 0 where
  pub relayed_as : IfSome before (λ known. RelaysRead view result (relayed (take read_limit known) words))
  pub flag : RelayFaultHasCause result was failed
  pub taken : TakesAtMost before after read_limit
  pub stands : IfToEnd result (IfSome before (λ known. Consumes before after (take read_limit known)))

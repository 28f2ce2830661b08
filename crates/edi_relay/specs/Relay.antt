-- What `relay` makes of an interchange: the mail text of each message, in order.
use Rattle.std.specs.Prelude.{◌≡◌, ℕ, ◌+◌, ◌≤◌, nat_le, ◌==◌, ◌&&◌, if◌then◌else◌, Bool, Option, Some, None, length}
use Rattle.std.specs.Prelude.{IsTrue, List, [], ◌∷◌, ◌++◌, Result, Ok, Err, All, codes}
use Rattle.std.specs.List.{list_all}
use Rattle.edi_segments.specs.declared.segment.Tokens.{Tokens}
use Rattle.edi_segments.specs.declared.fault.TokenFault.{TokenFault}
use Rattle.edi_segments.specs.declared.fault.TokenFault.TheVariants as token
use Rattle.edi_segments.specs.Characters.{is_digit}
use Rattle.edi_segments.specs.Code.{code_text as token_code}
use Rattle.edi_segments.specs.Reading.{tokens_of}
use Rattle.edi_envelope.specs.Fault.{code_text as envelope_code}
use Rattle.edi_envelope.specs.declared.interchange.Interchange.{Interchange}
use Rattle.edi_envelope.specs.declared.interchange.RawMessage.{RawMessage}
use Rattle.edi_envelope.specs.declared.fault.EnvelopeFault.{EnvelopeFault}
use Rattle.edi_envelope.specs.declared.fault.EnvelopeFault.TheVariants as envelope
use Rattle.edi_envelope.specs.Interchange.{interchange_of}
use Rattle.edi_envelope.specs.Mail.{last_number, mail_text}
use Rattle.edi_relay.specs.declared.relay.RelayWords.{RelayWords}
use Rattle.edi_relay.specs.declared.relay.RelayFault.{RelayFault}
use Rattle.edi_relay.specs.declared.relay.RelayFault.TheVariants.{Token, Envelope, Memory}

abbrev pub are_gln_digits : List ℕ → Bool
are_gln_digits text = length text == 13 && list_all is_digit text

-- how many messages may come after the first
abbrev pub messages_after : ℕ
messages_after = 998

-- the words, if both GLNs are 13 digits and the number is within its limits
abbrev pub relay_words_of : List ℕ → List ℕ → ℕ → ℕ → Option RelayWords
relay_words_of hub owner moment number =
    if (are_gln_digits hub && are_gln_digits owner) && (nat_le 1 number && nat_le (number + messages_after) last_number)
    then Some (record { hub = hub; owner = owner; moment = moment; number = number })
    else None

-- GLNs of digits, and a number that leaves room for those of 999 messages
pub record AreRelayWords (words : RelayWords) : Type 0 where
  pub hub : All (λ digit. IsTrue (is_digit digit)) words.hub
  pub owner : All (λ digit. IsTrue (is_digit digit)) words.owner
  pub least : 1 ≤ words.number
  pub most : words.number + messages_after ≤ last_number

-- the mail texts of messages, joined in order, with numbers that rise by one from the first
abbrev pub mail_texts : RelayWords → ℕ → ℕ → List RawMessage → List ℕ
mail_texts words mark number [] = []
mail_texts words mark number (message ∷ messages) =
    mail_text words.hub words.owner words.moment mark number message ++ mail_texts words mark (number + 1) messages

-- the fault of a text; out of memory is one for all
abbrev pub of_token : TokenFault → RelayFault
of_token token.Memory = Memory
of_token fault = Token fault

abbrev pub of_envelope : EnvelopeFault → RelayFault
of_envelope envelope.Memory = Memory
of_envelope fault = Envelope fault

abbrev pub mailed : RelayWords → Result Interchange EnvelopeFault → Result (List ℕ) RelayFault
mailed words (Err fault) = Err (of_envelope fault)
mailed words (Ok interchange) = Ok (mail_texts words interchange.decimal words.number interchange.messages)

abbrev pub tokens_mailed : RelayWords → Result Tokens TokenFault → Result (List ℕ) RelayFault
tokens_mailed words (Err fault) = Err (of_token fault)
tokens_mailed words (Ok tokens) = mailed words (interchange_of tokens)

-- what the bytes become, or why they are refused
abbrev pub relayed : List ℕ → RelayWords → Result (List ℕ) RelayFault
relayed bytes words = tokens_mailed words (tokens_of bytes)

-- the code of a fault
abbrev pub code_of : RelayFault → List ℕ
code_of (Token fault) = token_code fault
code_of (Envelope fault) = envelope_code fault
code_of Memory = codes "memory"

-- What a call answered is this, unless memory ran out.
abbrev pub RelayFails : {Y : Type 0} → RelayFault → Result Y RelayFault → Type 0
RelayFails Memory given = Unit {0}
RelayFails fault given = given ≡ Err fault

abbrev pub Relays : {X : Type 0} → (X → List ℕ) → Result X RelayFault → Result (List ℕ) RelayFault → Type 0
Relays view (Ok x) given = given ≡ Ok (view x)
Relays view (Err fault) given = RelayFails fault given

-- what was relayed, unless a read failed
abbrev pub RelaysRead : {X : Type 0} → (X → List ℕ) → Result X RelayFault → Result (List ℕ) RelayFault → Type 0
RelaysRead view (Ok x) given = given ≡ Ok (view x)
RelaysRead view (Err (Token token.Read)) given = Unit {0}
RelaysRead view (Err fault) given = RelayFails fault given

-- a text that is at hand is read without a fault
abbrev pub without_read : RelayFault → RelayFault
without_read (Token token.Read) = Memory
without_read fault = fault

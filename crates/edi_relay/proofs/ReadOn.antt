-- Reading on: combines the lender's next answer with what was written before.
use Rattle.std.proofs.Common.{◌≡◌, ◌≢◌, ℕ, Bool, true, false, List, [], ◌∷◌, ◌++◌, Option, Some, None, Result, Ok, Err}
use Rattle.std.proofs.Common.{refl, sym, ap, subst, ◌∙◌}
use Rattle.std.specs.Prelude.{IfSome, OnOk}
use Rattle.std.proofs.lemmas.Bool.{true≢false, false≢true, not-false}
use Rattle.edi_tokens.specs.declared.lender.Lender.{Lender}
use Rattle.edi_segments.specs.declared.segment.Segment.{Segment}
use Rattle.edi_segments.specs.declared.segment.Service.{Service}
use Rattle.edi_segments.specs.declared.segment.Tokens.{Tokens}
use Rattle.edi_segments.specs.declared.fault.TokenFault.{TokenFault}
use Rattle.edi_segments.specs.declared.fault.TokenFault.TheVariants.{TooLong, ServiceString, Byte, Cut, Tag, LongSegment, Read, Memory}
use Rattle.edi_segments.specs.Reading.{tokens_of}
use Rattle.edi_tokens.specs.Lender.{AtEnd, Fed, TellsNext, Feeds, FaultHasCause, TakesOf, answered, decimal_of, lent_by, room_of, stopped}
use Rattle.edi_tokens.specs.Stops.{StaysStopped, Stops}
use Rattle.edi_tokens.proofs.Lending.{takes_none, takes_then}
use Rattle.edi_tokens.proofs.Stopping.{stops_by_fault, stops_by_memory}
use Rattle.edi_tokens.proofs.Settled.{settled_service}
use Rattle.edi_envelope.specs.declared.fault.EnvelopeFault.{EnvelopeFault}
use Rattle.edi_envelope.specs.declared.fault.EnvelopeFault.TheVariants as envelope
use Rattle.edi_envelope.specs.declared.interchange.Interchange.{Interchange}
use Rattle.edi_envelope.specs.declared.check.EnvelopeCheck.{EnvelopeCheck}
use Rattle.edi_envelope.specs.declared.check.Place.{Place}
use Rattle.edi_envelope.specs.declared.check.Place.TheVariants as place
use Rattle.edi_envelope.specs.Interchange.{is_framed, fault_of, contents_of, interchange_of, checked}
use Rattle.edi_envelope.specs.Check.{Checked, Placed, is_fine}
use Rattle.edi_envelope.proofs.FrameLemmas.{framed_unz}
use Rattle.edi_envelope.proofs.LawLemmas.{HasNoEnvelopeFault-from_none}
use Rattle.edi_relay.specs.declared.relay.RelayWords.{RelayWords}
use Rattle.edi_relay.specs.declared.relay.RelayFault.{RelayFault}
use Rattle.edi_relay.specs.declared.relay.RelayFault.TheVariants as relay
use Rattle.edi_relay.specs.declared.mails.Mails.{Mails}
use Rattle.edi_relay.specs.declared.relaying.Relaying.{Relaying}
use Rattle.edi_relay.specs.Relay.{mail_texts, mailed, tokens_mailed, relayed, of_token, of_envelope, Relays, RelaysRead, without_read}
use Rattle.edi_relay.specs.Mails.{WritesMails}
use Rattle.edi_relay.specs.Relaying.{RelayingStands, ReadsRelaying, HasRelayed, stopped_after}
use Rattle.edi_relay.proofs.Written.{push_some}

-- one more segment
module _ (words : RelayWords) (mark : ℕ) (lent : List Segment) (s : Segment) (o : Relaying) (check : EnvelopeCheck) (stands : Place)
    (before : RelayingStands words mark lent o)
    (checked_next : Checked (lent ++ s ∷ []) check) (placed : Placed stands lent s)
    (refused : (stands ≡ place.Refused) → is_fine check ≡ false)
    (for_good : is_fine check ≡ true → is_fine o.check ≡ true) where
  pub more_stands : {E A : Type 0} (r : Result A E) (mails : Mails)
      → (WritesMails words mark lent o.mails → stands ≢ place.Refused → Placed stands lent s
      → OnOk r (WritesMails words mark (lent ++ s ∷ []) mails))
      → OnOk r (RelayingStands words mark (lent ++ s ∷ []) (record { check = check; mails = mails }))
  more_stands (Ok a) mails kept = record {
    checked = checked_next;
    kept = λ fine. kept (before.kept (for_good fine)) (λ e. true≢false (sym fine ∙ refused e)) placed;
  }
  more_stands (Err e) mails kept = tt

-- ---- the end

module _ (words : RelayWords) (tokens : Tokens) (o : Relaying) (stands : RelayingStands words tokens.service.decimal tokens.segments o)
    (none : fault_of tokens.segments ≡ None) (fine : is_fine o.check ≡ true) where
  framed : is_framed tokens.segments ≡ true
  framed = not-false _ (HasNoEnvelopeFault-from_none tokens.segments none envelope.InterchangeFrame)

  contents : interchange_of tokens ≡ Ok (contents_of tokens)
  unfolding interchange_of
  contents = ap (λ f. checked f (contents_of tokens)) none

  written : o.mails.out.items ≡ mail_texts words (contents_of tokens).decimal words.number (contents_of tokens).messages
  unfolding contents_of
  written = (stands.kept fine).ended (framed_unz tokens.segments framed)

  pub mailed_as : (i : Interchange) × (interchange_of tokens ≡ Ok i)
      × (o.mails.out.items ≡ mail_texts words i.decimal words.number i.messages)
  mailed_as = (contents_of tokens, contents, written)

-- ---- reading on

module _ (words : RelayWords) (before : Option (List ℕ)) (was : Bool) (old : Lender) where
  pub nothing_read : (relaying : Relaying) → ((mark : ℕ) → RelayingStands words mark [] relaying)
      → HasRelayed words before before was was old relaying old
  nothing_read relaying stands = record {
    lent = [];
    stands = λ all tokens fed read. stands tokens.service.decimal;
    fed = λ all fed. fed;
    flag = λ e. refl;
    going = λ e. e;
    bound = takes_none before (room_of old);
    ends = λ e. e;
  }

  module _ (between after : Option (List ℕ)) (flag failed : Bool) (now new : Lender) (relaying : Relaying)
      (result : Result Bool TokenFault) (read : HasRelayed words before between was flag old relaying now)
      (feeds : Feeds between after flag failed now (answered result new) new) where
    told_as : (given : Result Bool TokenFault) → result ≡ given
        → (all : List ℕ) → Fed before all [] old → TellsNext after all read.lent (answered given new) new
    told_as given is all fed =
        subst (λ (r : Result Bool TokenFault). TellsNext after all read.lent (answered r new) new) is
        (feeds.told all read.lent (read.fed all fed))

    pub bound_then : TakesOf before after (room_of old) (room_of new)
    bound_then = takes_then _ _ _ _ _ _ read.bound feeds.bound

    pub ends_then : AtEnd before old → AtEnd after new
    ends_then end = feeds.ends (read.ends end)

    pub flag_then : (given : Result Bool TokenFault) → result ≡ given → stopped old ≡ None → FaultHasCause (answered given new) was failed
    flag_then given is e =
        subst (λ (r : Result Bool TokenFault). FaultHasCause (answered r new) was failed) is
        (subst (λ (b : Bool). FaultHasCause (answered result new) b failed) (read.flag e) (feeds.flag (read.going e)))

    pub fault_told : (fault : TokenFault) → result ≡ Err fault → ReadsRelaying words before old (Err (of_token fault)) new
    fault_told TooLong is = λ all fed known. ap (tokens_mailed words) (told_as (Err TooLong) is all fed (λ e. false≢true cc))
    fault_told ServiceString is = λ all fed known. ap (tokens_mailed words) (told_as (Err ServiceString) is all fed (λ e. false≢true cc))
    fault_told Byte is = λ all fed known. ap (tokens_mailed words) (told_as (Err Byte) is all fed (λ e. false≢true cc))
    fault_told Cut is = λ all fed known. ap (tokens_mailed words) (told_as (Err Cut) is all fed (λ e. false≢true cc))
    fault_told Tag is = λ all fed known. ap (tokens_mailed words) (told_as (Err Tag) is all fed (λ e. false≢true cc))
    fault_told LongSegment is = λ all fed known. ap (tokens_mailed words) (told_as (Err LongSegment) is all fed (λ e. false≢true cc))
    fault_told Read is = λ all fed known. absurd (known refl)
    fault_told Memory is = tt

    pub end_told : result ≡ Ok false → ReadsRelaying words before old (Ok relaying) new
    end_told is = (read.lent, read.stands, λ all fed. (told_as (Ok false) is all fed).1)

    settled : result ≡ Ok true → (all : List ℕ) (tokens : Tokens) → Fed before all [] old → tokens_of all ≡ Ok tokens
        → tokens.service.decimal ≡ decimal_of new
    settled is all tokens fed spelled =
        ap (λ (s : Service). s.decimal)
        (settled_service after all (read.lent ++ lent_by new ∷ []) new (told_as (Ok true) is all fed)
        (push_some read.lent (lent_by new)) tokens spelled)

    pub more_read : (next : Relaying) → result ≡ Ok true
        → ((lent : List Segment) → RelayingStands words (decimal_of new) lent relaying
        → RelayingStands words (decimal_of new) (lent ++ lent_by new ∷ []) next)
        → HasRelayed words before after was failed old next new
    more_read next is stands = record {
      lent = read.lent ++ lent_by new ∷ [];
      stands = λ all tokens fed spelled.
          let mark = settled is all tokens fed spelled in
          subst (λ (m : ℕ). RelayingStands words m (read.lent ++ lent_by new ∷ []) next) (sym mark)
          (stands read.lent (subst (λ (m : ℕ). RelayingStands words m read.lent relaying) mark (read.stands all tokens fed spelled)));
      fed = λ all fed. told_as (Ok true) is all fed;
      flag = λ e.
          subst (λ (r : Result Bool TokenFault). FaultHasCause (answered r new) flag failed) is (feeds.flag (read.going e)) ∙ read.flag e;
      going = λ e. subst (λ (r : Result Bool TokenFault). OnOk (answered r new) (stopped new ≡ None)) is feeds.goes_on;
      bound = bound_then;
      ends = ends_then;
    }

-- a fault stops the lender; out of memory, which it never answers first, leaves it as it was
module _ {R : Type 0} (remaining : R → Option (List ℕ)) (first between after : R) (was failed : Bool) (old now new : Lender)
    (result : Result Bool TokenFault)
    (feeds : Feeds (remaining between) (remaining after) was failed now (answered result new) new)
    (still : IfSome (stopped now) (λ _. after ≡ between))
    (stays : StaysStopped first old between now)
    (going : stopped old ≡ None → stopped now ≡ None) where
  stops_by : (fault : TokenFault) → result ≡ Err fault → Stops remaining (Some fault) first old after new
  stops_by fault is = stops_by_fault remaining first between after was failed old now new result feeds still stays fault is

  pub fault_stops : (X : Type 0) (fault : TokenFault) → result ≡ Err fault
      → Stops remaining (stopped_after {X = X} (Err (of_token fault)) (stopped old)) first old after new
  fault_stops X TooLong is = stops_by TooLong is
  fault_stops X ServiceString is = stops_by ServiceString is
  fault_stops X Byte is = stops_by Byte is
  fault_stops X Cut is = stops_by Cut is
  fault_stops X Tag is = stops_by Tag is
  fault_stops X LongSegment is = stops_by LongSegment is
  fault_stops X Read is = stops_by Read is
  fault_stops X Memory is = stops_by_memory remaining first between after was failed old now new result feeds still stays is going

-- ---- what was read is what the text is relayed as

relays_token : (fault : TokenFault) (given : Result (List ℕ) RelayFault) {X : Type 0} (view : X → List ℕ)
    → (fault ≢ Read → given ≡ Err (relay.Token fault))
    → RelaysRead view (Err (relay.Token fault)) given
relays_token TooLong given view h = h (λ e. false≢true cc)
relays_token ServiceString given view h = h (λ e. false≢true cc)
relays_token Byte given view h = h (λ e. false≢true cc)
relays_token Cut given view h = h (λ e. false≢true cc)
relays_token Tag given view h = h (λ e. false≢true cc)
relays_token LongSegment given view h = h (λ e. false≢true cc)
relays_token Read given view h = tt
relays_token Memory given view h = h (λ e. false≢true cc)

pub fault_relays : (words : RelayWords) (known : Option (List ℕ)) (old new : Lender) (fault : RelayFault) {X : Type 0} (view : X → List ℕ)
    → ReadsRelaying words known old (Err fault) new
    → (all : List ℕ) → Fed known all [] old → RelaysRead view (Err fault) (relayed all words)
fault_relays words known old new (relay.Token fault) view h all fed = relays_token fault (relayed all words) view (h all fed)
fault_relays words known old new (relay.Envelope fault) view h all fed = absurd h
fault_relays words known old new relay.Memory view h all fed = tt

of_envelope_relays : (fault : EnvelopeFault) (given : Result (List ℕ) RelayFault) {X : Type 0} (view : X → List ℕ)
    → given ≡ Err (of_envelope fault)
    → RelaysRead view (Err (of_envelope fault)) given
of_envelope_relays envelope.InterchangeFrame given view h = h
of_envelope_relays envelope.InterchangeHeader given view h = h
of_envelope_relays envelope.MessageFrame given view h = h
of_envelope_relays envelope.MessageHeader given view h = h
of_envelope_relays envelope.SegmentCount given view h = h
of_envelope_relays envelope.MessageReference given view h = h
of_envelope_relays envelope.MessageCount given view h = h
of_envelope_relays envelope.ControlReference given view h = h
of_envelope_relays envelope.RepeatedReference given view h = h
of_envelope_relays envelope.TestIndicator given view h = h
of_envelope_relays envelope.TooManyMessages given view h = h
of_envelope_relays envelope.CharacterSet given view h = h
of_envelope_relays envelope.Memory given view h = tt

pub envelope_relays : (words : RelayWords) (all : List ℕ) (tokens : Tokens) (fault : EnvelopeFault) {X : Type 0} (view : X → List ℕ)
    → tokens_of all ≡ Ok tokens → interchange_of tokens ≡ Err fault
    → RelaysRead view (Err (of_envelope fault)) (relayed all words)
envelope_relays words all tokens fault view read is =
    of_envelope_relays fault (relayed all words) view (ap (tokens_mailed words) read ∙ ap (mailed words) is)

pub mails_relay : (words : RelayWords) (all : List ℕ) (tokens : Tokens) (out : List ℕ)
    → tokens_of all ≡ Ok tokens
    → (i : Interchange) × (interchange_of tokens ≡ Ok i) × (out ≡ mail_texts words i.decimal words.number i.messages)
    → relayed all words ≡ Ok out
mails_relay words all tokens out read is =
    ap (tokens_mailed words) read ∙ ap (mailed words) is.1 ∙ ap (λ (t : List ℕ). Ok t) (sym is.2)

-- a fault that is no failed read
pub never_read : (fault : RelayFault) (given : Result (List ℕ) RelayFault) {X : Type 0} (view : X → List ℕ)
    → RelaysRead view (Err fault) given
    → Relays view (Err (without_read fault)) given
never_read (relay.Token TooLong) given view h = h
never_read (relay.Token ServiceString) given view h = h
never_read (relay.Token Byte) given view h = h
never_read (relay.Token Cut) given view h = h
never_read (relay.Token Tag) given view h = h
never_read (relay.Token LongSegment) given view h = h
never_read (relay.Token Read) given view h = tt
never_read (relay.Token Memory) given view h = h
never_read (relay.Envelope fault) given view h = h
never_read relay.Memory given view h = tt

pub not_read : (fault : TokenFault) → fault ≢ Read → without_read (relay.Token fault) ≡ relay.Token fault
not_read TooLong h = refl
not_read ServiceString h = refl
not_read Byte h = refl
not_read Cut h = refl
not_read Tag h = refl
not_read LongSegment h = refl
not_read Read h = absurd (h refl)
not_read Memory h = refl

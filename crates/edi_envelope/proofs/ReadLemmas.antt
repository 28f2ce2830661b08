-- Reading on: combines the lender's next answer with what was opened before.
use Rattle.std.proofs.Common.{◌≡◌, ◌≢◌, ℕ, Bool, true, false, List, [], ◌∷◌, ◌++◌, Option, None, Result, Ok, Err, refl, sym, ap, subst, ◌∙◌}
use Rattle.std.specs.Prelude.{OnOk}
use Rattle.std.proofs.lemmas.Bool.{false≢true}
use Rattle.edi_tokens.specs.declared.lender.Lender.{Lender}
use Rattle.edi_segments.specs.declared.segment.Segment.{Segment}
use Rattle.edi_segments.specs.declared.fault.TokenFault.{TokenFault}
use Rattle.edi_segments.specs.declared.fault.TokenFault.TheVariants as token
use Rattle.edi_segments.specs.Reading.{tokens_of}
use Rattle.edi_segments.specs.Machine.{tokens_at}
use Rattle.edi_tokens.specs.Lender.{AtEnd, Came, Fed, HasCause, TellsSome, TellsNext, Feeds, FaultHasCause, TakesOf, answered, lent_by}
use Rattle.edi_tokens.specs.Lender.{room_of, stopped}
use Rattle.edi_tokens.proofs.Lending.{takes_none, takes_then}
use Rattle.edi_envelope.specs.declared.opening.Opening.{Opening}
use Rattle.edi_segments.specs.declared.fault.TokenFault.TheVariants.{TooLong, ServiceString, Byte, Cut, Tag, LongSegment, Read, Memory}
use Rattle.edi_segments.specs.declared.segment.Tokens.{Tokens}
use Rattle.edi_envelope.specs.declared.fault.EnvelopeFault.{EnvelopeFault}
use Rattle.edi_envelope.specs.declared.fault.EnvelopeFault.TheVariants as envelope
use Rattle.edi_envelope.specs.declared.fault.OpenFault.{OpenFault}
use Rattle.edi_envelope.specs.declared.fault.OpenFault.TheVariants.{Token, Envelope}
use Rattle.edi_envelope.specs.declared.interchange.Interchange.{Interchange}
use Rattle.edi_envelope.specs.Interchange.{interchange_of}
use Rattle.edi_envelope.specs.Gathered.{OpeningStands, HasRead, ReadsOpening, ReadsSome}
use Rattle.edi_envelope.specs.Opened.{checked_as, read_as, opened, Opens}

module _ (before : Option (List ℕ)) (was : Bool) (old : Lender) where
  pub nothing_read : (opening : Opening) → OpeningStands [] opening → HasRead before before was was old opening old
  nothing_read opening stands = record {
    lent = [];
    stands = stands;
    fed = λ all fed. fed;
    some = λ came. came;
    flag = λ e. refl;
    going = λ e. e;
    bound = takes_none before (room_of old);
    ends = λ e. e;
  }

  module _ (between after : Option (List ℕ)) (flag failed : Bool) (now new : Lender) (opening : Opening)
      (result : Result Bool TokenFault) (read : HasRead before between was flag old opening now)
      (feeds : Feeds between after flag failed now (answered result new) new) where
    told_as : (given : Result Bool TokenFault) → result ≡ given
        → (all : List ℕ) → Fed before all [] old → TellsNext after all read.lent (answered given new) new
    told_as given is all fed =
        subst (λ (r : Result Bool TokenFault). TellsNext after all read.lent (answered r new) new) is
        (feeds.told all read.lent (read.fed all fed))

    some_as : (given : Result Bool TokenFault) → result ≡ given → Came [] old → TellsSome read.lent (answered given new) new
    some_as given is came =
        subst (λ (r : Result Bool TokenFault). TellsSome read.lent (answered r new) new) is (feeds.some read.lent (read.some came))

    pub bound_then : TakesOf before after (room_of old) (room_of new)
    bound_then = takes_then _ _ _ _ _ _ read.bound feeds.bound

    pub ends_then : AtEnd before old → AtEnd after new
    ends_then end = feeds.ends (read.ends end)

    flags_as : (given : Result Bool TokenFault) → result ≡ given → stopped old ≡ None → FaultHasCause (answered given new) flag failed
    flags_as given is begun =
        subst (λ (r : Result Bool TokenFault). FaultHasCause (answered r new) flag failed) is (feeds.flag (read.going begun))

    pub still_flagged : (more : Bool) → result ≡ Ok more → stopped old ≡ None → failed ≡ was
    still_flagged true is begun = flags_as (Ok true) is begun ∙ read.flag begun
    still_flagged false is begun = flags_as (Ok false) is begun ∙ read.flag begun

    pub fault_flagged : (fault : TokenFault) → result ≡ Err fault → stopped old ≡ None → HasCause fault was failed
    fault_flagged fault is begun =
        subst (λ (flag : Bool). HasCause fault flag failed) (read.flag begun) (flags_as (Err fault) is begun)

    pub fault_told : (fault : TokenFault) → result ≡ Err fault
        → (all : List ℕ) → Fed before all [] old → fault ≢ token.Read → tokens_of all ≡ Err fault
    fault_told fault is all fed = told_as (Err fault) is all fed

    pub fault_of_some : (fault : TokenFault) → result ≡ Err fault → Came [] old → fault ≢ token.Read
        → (all : List ℕ) × (tokens_of all ≡ Err fault)
    fault_of_some fault is came = some_as (Err fault) is came

    pub end_of_some : result ≡ Ok false → Came [] old
        → (lent : List Segment) × OpeningStands lent opening × ((all : List ℕ) × (tokens_of all ≡ Ok (tokens_at lent new.machine)))
    end_of_some is came = (read.lent, read.stands, (some_as (Ok false) is came).1)

    pub end_told : result ≡ Ok false
        → (lent : List Segment) × OpeningStands lent opening
        × ((all : List ℕ) → Fed before all [] old → tokens_of all ≡ Ok (tokens_at lent new.machine))
    end_told is = (read.lent, read.stands, λ all fed. (told_as (Ok false) is all fed).1)

    pub more_read : (next : Opening) → result ≡ Ok true → OpeningStands (read.lent ++ lent_by new ∷ []) next
        → HasRead before after was failed old next new
    more_read next is stands = record {
      lent = read.lent ++ lent_by new ∷ [];
      stands = stands;
      fed = λ all fed. told_as (Ok true) is all fed;
      some = λ came. some_as (Ok true) is came;
      flag = λ e.
          subst (λ (r : Result Bool TokenFault). FaultHasCause (answered r new) flag failed) is (feeds.flag (read.going e)) ∙ read.flag e;
      going = λ e. subst (λ (r : Result Bool TokenFault). OnOk (answered r new) (stopped new ≡ None)) is feeds.goes_on;
      bound = bound_then;
      ends = ends_then;
    }

-- ---- what was read is what the text is opened as

opens_token : (fault : TokenFault) (all : List ℕ) → (fault ≢ Read → tokens_of all ≡ Err fault) → Opens (Err (Token fault)) (opened all)
opens_token TooLong all h = ap read_as (h (λ e. false≢true cc))
opens_token ServiceString all h = ap read_as (h (λ e. false≢true cc))
opens_token Byte all h = ap read_as (h (λ e. false≢true cc))
opens_token Cut all h = ap read_as (h (λ e. false≢true cc))
opens_token Tag all h = ap read_as (h (λ e. false≢true cc))
opens_token LongSegment all h = ap read_as (h (λ e. false≢true cc))
opens_token Read all h = tt
opens_token Memory all h = ap read_as (h (λ e. false≢true cc))

opens_envelope : (fault : EnvelopeFault) (given : Result Interchange OpenFault) →
    given ≡ Err (Envelope fault) → Opens (Err (Envelope fault)) given
opens_envelope envelope.InterchangeFrame given h = h
opens_envelope envelope.InterchangeHeader given h = h
opens_envelope envelope.MessageFrame given h = h
opens_envelope envelope.MessageHeader given h = h
opens_envelope envelope.SegmentCount given h = h
opens_envelope envelope.MessageReference given h = h
opens_envelope envelope.MessageCount given h = h
opens_envelope envelope.ControlReference given h = h
opens_envelope envelope.RepeatedReference given h = h
opens_envelope envelope.TestIndicator given h = h
opens_envelope envelope.TooManyMessages given h = h
opens_envelope envelope.CharacterSet given h = h
opens_envelope envelope.Memory given h = tt

pub fault_opens : (known : Option (List ℕ)) (old new : Lender) (fault : OpenFault) → ReadsOpening known old (Err fault) new
    → (all : List ℕ) → Fed known all [] old → Opens (Err fault) (opened all)
fault_opens known old new (Token fault) h all fed = opens_token fault all (h all fed)
fault_opens known old new (Envelope fault) h all fed =
    subst (λ (e : EnvelopeFault). Opens (Err (Envelope e)) (opened all)) (sym h) tt

pub fault_opens_some : (old new : Lender) (fault : OpenFault) → ReadsSome old (Err fault) new → Came [] old
    → (all : List ℕ) × Opens (Err fault) (opened all)
fault_opens_some old new (Token Read) h came = ([], tt)
fault_opens_some old new (Token TooLong) h came = let some = h came (λ e. false≢true cc) in (some.0, ap read_as some.1)
fault_opens_some old new (Token ServiceString) h came = let some = h came (λ e. false≢true cc) in (some.0, ap read_as some.1)
fault_opens_some old new (Token Byte) h came = let some = h came (λ e. false≢true cc) in (some.0, ap read_as some.1)
fault_opens_some old new (Token Cut) h came = let some = h came (λ e. false≢true cc) in (some.0, ap read_as some.1)
fault_opens_some old new (Token Tag) h came = let some = h came (λ e. false≢true cc) in (some.0, ap read_as some.1)
fault_opens_some old new (Token LongSegment) h came = let some = h came (λ e. false≢true cc) in (some.0, ap read_as some.1)
fault_opens_some old new (Token Memory) h came = let some = h came (λ e. false≢true cc) in (some.0, ap read_as some.1)
fault_opens_some old new (Envelope fault) h came = ([], subst (λ (e : EnvelopeFault). Opens (Err (Envelope e)) (opened [])) (sym h) tt)

pub envelope_opens : (all : List ℕ) (tokens : Tokens) (fault : EnvelopeFault) →
    tokens_of all ≡ Ok tokens → interchange_of tokens ≡ Err fault
    → Opens (Err (Envelope fault)) (opened all)
envelope_opens all tokens fault read checked = opens_envelope fault (opened all) (ap read_as read ∙ ap checked_as checked)

pub interchange_opens : (all : List ℕ) (tokens : Tokens) (i : Interchange) → tokens_of all ≡ Ok tokens → interchange_of tokens ≡ Ok i
    → opened all ≡ Ok i
interchange_opens all tokens i read checked = ap read_as read ∙ ap checked_as checked

-- A call that reads a text on, and what it leaves where it ends.
use Rattle.std.proofs.Common.{◌≡◌, ℕ, Bool, true, false, List, [], ◌∷◌, ◌++◌, Option, Some, None, Result, Ok, Err}
use Rattle.std.proofs.Common.{refl, sym, ap, subst, ◌∙◌}
use Rattle.std.specs.Prelude.{IfErr, IfSome, OnOk}
use Rattle.edi_segments.specs.declared.segment.Segment.{Segment}
use Rattle.edi_segments.specs.declared.fault.TokenFault.{TokenFault}
use Rattle.edi_segments.specs.declared.fault.TokenFault.TheVariants.{Memory}
use Rattle.edi_tokens.specs.declared.lender.Lender.{Lender}
use Rattle.edi_tokens.specs.Lender.{Fed, Feeds, FaultHasCause, TellsNext, answered, lent_by, stopped}
use Rattle.edi_tokens.specs.Stops.{StaysStopped, Stops}

-- nothing was done
pub stays_still : {R : Type 0} (reader : R) (l : Lender) → StaysStopped reader l reader l
stays_still reader l =
    elim (stopped l) as (λ s. IfSome s (λ _. (l ≡ l) × (reader ≡ reader))) [ None ↦ tt | Some fault ↦ (refl, refl) ]

pub stops_still : {R : Type 0} (remaining : R → Option (List ℕ)) (reader : R) (l : Lender)
    → Stops remaining (stopped l) reader l reader l
stops_still remaining reader l = record {
  told_is = refl;
  stays = stays_still reader l;
  stands = λ going all fed. ([], fed);
}

-- more segments, or their end, are no fault
not_told : (more : Bool) (fault : TokenFault) (l : Lender) → answered (Ok more) l ≡ Err fault → ⊥
not_told true fault l is = cc
not_told false fault l is = cc

module _ {R : Type 0} (remaining : R → Option (List ℕ)) (first between after : R) (was failed : Bool) (old now new : Lender)
    (result : Result Bool TokenFault)
    (feeds : Feeds (remaining between) (remaining after) was failed now (answered result new) new)
    (still : IfSome (stopped now) (λ _. after ≡ between))
    (stays : StaysStopped first old between now) where
  abbrev told_again : Option TokenFault → Type 0
  told_again s = IfSome s (λ fault. (answered result new ≡ Err fault) × (new ≡ now))

  pub stays_then : StaysStopped first old after new
  stays_then =
      elim (stopped old) as (λ s. stopped old ≡ s → IfSome s (λ _. (now ≡ old) × (between ≡ first))
      → IfSome s (λ _. (new ≡ old) × (after ≡ first))) [
        | None ↦ λ is before. tt
        | Some fault ↦ λ is before.
            let at : stopped now ≡ Some fault = ap stopped before.0 ∙ is in
            let same = subst told_again at feeds.for_good in
            let read = subst (λ (s : Option TokenFault). IfSome s (λ _. after ≡ between)) at still in
            (same.1 ∙ before.0, read ∙ before.1)
      ]
      refl stays

  pub stopped_by_fault : (fault : TokenFault) → result ≡ Err fault → stopped new ≡ Some fault
  stopped_by_fault fault is =
      subst (λ (r : Result Bool TokenFault). IfErr (answered r new) (λ fault. stopped new ≡ Some fault)) is feeds.stops

  pub stops_by_fault : (fault : TokenFault) → result ≡ Err fault → Stops remaining (Some fault) first old after new
  stops_by_fault fault is =
      let told = stopped_by_fault fault is in
      record { told_is = told; stays = stays_then; stands = λ going. cc (told, going) }

  -- a fault that no lender reports first had been reported before
  memory_was_told : result ≡ Err Memory → (stopped old ≡ None → stopped now ≡ None) → stopped new ≡ stopped old
  memory_was_told is going =
      elim (stopped old) as (λ s. stopped old ≡ s → IfSome s (λ _. (new ≡ old) × (after ≡ first)) → stopped new ≡ stopped old) [
        | None ↦ λ none same.
            absurd (subst (λ (r : Result Bool TokenFault). FaultHasCause (answered r new) was failed) is (feeds.flag (going none)))
        | Some fault ↦ λ some same. ap stopped same.0
      ]
      refl stays_then

  pub stops_by_memory : result ≡ Err Memory → (stopped old ≡ None → stopped now ≡ None)
      → Stops remaining (stopped old) first old after new
  stops_by_memory is going =
      let told = stopped_by_fault Memory is in
      record { told_is = memory_was_told is going; stays = stays_then; stands = λ none. cc (told, none) }

  -- a lender that goes on had not stopped
  had_not_stopped : (more : Bool) → result ≡ Ok more → stopped old ≡ None
  had_not_stopped more is =
      elim (stopped old) as (λ s. stopped old ≡ s → IfSome s (λ _. (now ≡ old) × (between ≡ first)) → s ≡ None) [
        | None ↦ λ none before. refl
        | Some fault ↦ λ some before.
            let at : stopped now ≡ Some fault = ap stopped before.0 ∙ some in
            let same = subst told_again at feeds.for_good in
            absurd (not_told more fault new (subst (λ (r : Result Bool TokenFault). answered r new ≡ Err fault) is same.0))
      ]
      refl stays

  module _ (lent : List Segment) (fed : (all : List ℕ) → Fed (remaining first) all [] old → Fed (remaining between) all lent now) where
    told_as : (given : Result Bool TokenFault) → result ≡ given → (all : List ℕ) → Fed (remaining first) all [] old
        → TellsNext (remaining after) all lent (answered given new) new
    told_as given is all old_fed =
        subst (λ (r : Result Bool TokenFault). TellsNext (remaining after) all lent (answered r new) new) is
        (feeds.told all lent (fed all old_fed))

    goes_on : (more : Bool) → result ≡ Ok more → stopped new ≡ None
    goes_on true is = subst (λ (r : Result Bool TokenFault). OnOk (answered r new) (stopped new ≡ None)) is feeds.goes_on
    goes_on false is = subst (λ (r : Result Bool TokenFault). OnOk (answered r new) (stopped new ≡ None)) is feeds.goes_on

    pub stops_not : (more : Bool) → result ≡ Ok more → Stops remaining None first old after new
    stops_not true is = record {
      told_is = goes_on true is;
      stays = stays_then;
      stands = λ going all old_fed. (lent ++ lent_by new ∷ [], told_as (Ok true) is all old_fed);
    }
    stops_not false is = record {
      told_is = goes_on false is;
      stays = stays_then;
      stands = λ going all old_fed. (lent, (told_as (Ok false) is all old_fed).0);
    }

    pub stops_as_before : (more : Bool) → result ≡ Ok more → Stops remaining (stopped old) first old after new
    stops_as_before more is =
        subst (λ (told : Option TokenFault). Stops remaining told first old after new) (sym (had_not_stopped more is)) (stops_not more is)

-- Proves how a call fails that could not look up what the rules need.
use Rattle.std.proofs.Common.{◌≡◌, ◌⊎◌, inl, inr, Bool, Option, Some, None, Result, Ok, Err, refl, sym, subst, ◌∙◌}
use Rattle.std.specs.Option.{IfSome}
use Rattle.hub_store.specs.Calls.{Fails, fault_of}
use Rattle.hub_store.specs.declared.fault.LastingFault.{LastingFault}
use Rattle.hub_store.specs.declared.fault.StoreFault.{StoreFault}
use Rattle.hub_store.specs.declared.fault.StoreFault.TheVariants.{Memory, Disk, Unclean, Version}
use Rattle.hub_tables.specs.Tables.{Tables}
use Rattle.hub_acts.specs.HubLaw.Told.{Act}
use Rattle.hub_acts.specs.HubTexts.Decision.{told_of}
use Rattle.hub_acts.specs.HubTexts.declared.decision.Decision.{Decision}
use Rattle.hub_acts.specs.Acts.{BreaksBy, FailsWith, OfAny, no_answer}
use Rattle.hub_transactions.specs.Judged.{UnreadOf, act_of}
use Rattle.hub_transactions.specs.declared.judged.Judged.{Judged}

-- a store that returned a result is not broken
pub none_broken : {X : Type 0} (plain : Bool) (old new : Option LastingFault) (x : X) → Fails plain old new (Ok x) → old ≡ None
none_broken plain None new x fails = refl
none_broken plain (Some fault) new x fails = let no : Ok x ≡ Err (fault_of fault) = fails.again in absurd (cc)

module _ {X : Type 0} (plain : Bool) (cause : Type 0) (may : X → Type 0) (old new : Option LastingFault) where
  pub by_cause : (fault : StoreFault)
      → old ≡ None
      → new ≡ old
      → (fault ≡ Memory) ⊎ ((fault ≡ Unclean) × cause)
      → FailsWith plain cause may old new (Err fault)
  by_cause fault none same (inl e) = record {
    again = subst (λ (o : Option LastingFault). IfSome o (λ broken. (fault ≡ Memory) ⊎ (fault ≡ fault_of broken))) (sym none) tt;
    after = subst (λ (f : StoreFault). BreaksBy cause old new f) (sym e) same;
    only_memory = λ p. (same, inl e);
  }
  by_cause fault none same (inr e) = record {
    again = subst (λ (o : Option LastingFault). IfSome o (λ broken. (fault ≡ Memory) ⊎ (fault ≡ fault_of broken))) (sym none) tt;
    after = subst (λ (f : StoreFault). BreaksBy cause old new f) (sym e.0) (inr (same, e.1));
    only_memory = λ p. (same, inr e);
  }

  pub ends_in : (result : Result X StoreFault) (fault : StoreFault)
      → result ≡ Err fault
      → old ≡ None
      → new ≡ old
      → (fault ≡ Memory) ⊎ ((fault ≡ Unclean) × cause)
      → FailsWith plain cause may old new result
  ends_in result fault is none same e =
      subst (λ (r : Result X StoreFault). FailsWith plain cause may old new r) (sym is) (by_cause fault none same e)

-- a call that fails without a cause fails the same way with any
breaks_by : (cause : Type 0) (old new : Option LastingFault) (fault : StoreFault) → BreaksBy ⊥ old new fault → BreaksBy cause old new fault
breaks_by cause old new Memory after = after
breaks_by cause old new Disk after = after
breaks_by cause old new Unclean after = elim after [ inl e ↦ inl e | inr e ↦ absurd e.1 ]
breaks_by cause old new Version after = absurd after

both_of_any : (old : Option LastingFault) (deliver : Act) (judged : Judged) (told : Decision)
    → IfSome old (λ _. UnreadOf deliver judged)
    → IfSome old (λ _. (t : Tables) → (act_of judged t).0 ≡ told_of told)
    → IfSome old (λ _. OfAny deliver told_of told)
both_of_any None deliver judged told unread tells = tt
both_of_any (Some fault) deliver judged told unread tells = λ t. unread.same t ∙ (λ i. (tells t i, unread.stays t i))

-- the decision is carried out
pub after_judging : (plain : Bool) (cause other : Type 0) (old middle new : Option LastingFault) (deliver : Act) (judged : Judged)
    (result : Result Decision StoreFault)
    → FailsWith plain other (UnreadOf deliver) old middle (Ok judged)
    → FailsWith plain ⊥ (λ told. (t : Tables) → (act_of judged t).0 ≡ told_of told) middle new result
    → FailsWith plain cause (OfAny deliver told_of) old new result
after_judging plain cause other old middle new deliver judged (Ok told) first second =
    let then = subst (λ (o : Option LastingFault).
    FailsWith plain ⊥ (λ (told : Decision). (t : Tables) → (act_of judged t).0 ≡ told_of told) o new (Ok told)) first.after second in
    record {
      again = both_of_any old deliver judged told first.again then.again;
      after = then.after;
      only_memory = λ p. ((then.only_memory p).0, tt);
    }
after_judging plain cause other old middle new deliver judged (Err fault) first second =
    let then = subst (λ (o : Option LastingFault).
    FailsWith plain ⊥ (λ (told : Decision). (t : Tables) → (act_of judged t).0 ≡ told_of told) o new (Err fault)) first.after second in
    record {
      again = then.again;
      after = breaks_by cause old new fault then.after;
      only_memory = λ p. ((then.only_memory p).0, elim (then.only_memory p).1 [ inl e ↦ inl e | inr e ↦ absurd e.1 ]);
    }

-- a fault with another cause
breaks_with : (cause other : Type 0) (old new : Option LastingFault) (fault : StoreFault)
    → (cause → other)
    → BreaksBy cause old new fault
    → BreaksBy other old new fault
breaks_with cause other old new Memory weaker after = after
breaks_with cause other old new Disk weaker after = after
breaks_with cause other old new Unclean weaker after = elim after [ inl e ↦ inl e | inr e ↦ inr (e.0, weaker e.1) ]
breaks_with cause other old new Version weaker after = absurd after

pub fails_with : {X Y : Type 0} (plain : Bool) (cause other : Type 0) (may : X → Type 0) (may_also : Y → Type 0)
    (before old new : Option LastingFault) (fault : StoreFault) (result : Result Y StoreFault)
    → before ≡ old
    → result ≡ Err fault
    → (cause → other)
    → FailsWith plain cause may before new (Err fault)
    → FailsWith plain other may_also old new result
fails_with plain cause other may may_also before old new fault result same is weaker earlier =
    let fails = subst (λ o. FailsWith plain cause may o new (Err fault)) same earlier in
    subst (λ r. FailsWith plain other may_also old new r) (sym is) (record {
      again = again old fails.again;
      after = breaks_with cause other old new fault weaker fails.after;
      only_memory = λ p. ((fails.only_memory p).0, elim (fails.only_memory p).1 [ inl e ↦ inl e | inr e ↦ inr (e.0, weaker e.1) ]);
    })
  where
    again : (o : Option LastingFault)
        → IfSome o (λ broken. (fault ≡ Memory) ⊎ (fault ≡ fault_of broken))
        → IfSome o (λ broken. (fault ≡ Memory) ⊎ (fault ≡ fault_of broken))
    again o h = h

-- a call that cannot answer over a broken store fails the same way as one that may answer
pub fails_as : {X : Type 0} (plain : Bool) (cause other : Type 0) (may : X → Type 0) (old new : Option LastingFault)
    (result : Result X StoreFault)
    → (cause → other)
    → FailsWith plain cause no_answer old new result
    → FailsWith plain other may old new result
fails_as plain cause other may None new (Ok x) weaker fails = record {
  again = tt;
  after = fails.after;
  only_memory = fails.only_memory;
}
fails_as plain cause other may (Some broken) new (Ok x) weaker fails = absurd fails.again
fails_as plain cause other may old new (Err fault) weaker fails =
    fails_with plain cause other no_answer may old old new fault (Err fault) refl refl weaker fails

-- Proves what a query does, from the contracts of its calls.
use Rattle.std.proofs.Common.{Vec, Result, Ok, Err, IfOk, IfErr, ◌≡◌, ◌⊎◌, inl, inr, ℕ, false, List, IsTrue, IsSome}
use Rattle.std.proofs.Common.{refl, sym, ◌∙◌, subst, true≢false}
use Rattle.std.specs.declared.alloc.Global.{Global}
use Rattle.sqlite_value.specs.Order.{Row}
use Rattle.sqlite.specs.declared.error.Error.{Error}
use Rattle.sqlite.specs.declared.error.Error.TheVariants.{SqliteFailure}
use Rattle.sqlite.specs.declared.error.ErrorCode.TheVariants as code
use Rattle.sqlite.specs.Clock.{timed}
use Rattle.sqlite.specs.State.{State, HasCleanDisk, Shown, ShowsRows, FailsToQuery, FailsToShow, IsNotRun, IsUnchanged}
use Rattle.sqlite.specs.State.{IsRolledBack, Survives, CommitsShowing}
use Rattle.sqlite.proofs.StateLemmas.{survives_weaker}
use Rattle.hub_store.specs.declared.fault.StoreFault.{StoreFault}
use Rattle.hub_store.specs.declared.fault.StoreFault.TheVariants.{Memory, Disk, Unclean}
use Rattle.hub_schema.specs.Faults.{fault_of}
use Rattle.hub_schema.proofs.Leaving.{unchanged, rolled_back, spared}
use Rattle.hub_rows.specs.Asks.{OnlyReads, Asks}

pub shown_same : (sql : List ℕ) (params : Row) (old new : State) (rows : List Row) → OnlyReads sql → Shown sql params old new rows
    → IsUnchanged old new
unfolding Shown
shown_same sql params old new rows plain h =
    let none = plain old.now.schema h.0 h.1.is in
    (subst (ShowsRows old new sql h.0 (timed params h.0.formats h.1.now) rows) none h.2).3

failed_same : (sql : List ℕ) (params : Row) (old new : State) (e : Error) → OnlyReads sql → FailsToQuery sql params old new e
    → IsUnchanged old new ⊎ IsRolledBack old new
unfolding FailsToQuery IsNotRun
failed_same sql params old new e plain (inl (inl h)) = inl h.1
failed_same sql params old new e plain (inl (inr h)) = inr h.3
failed_same sql params old new e plain (inr h) =
    let none = plain old.now.schema h.0 h.1.is in
    inl (subst (FailsToShow old new sql h.0 (timed params h.0.formats h.1.now) e) none h.2).3

-- so it commits nothing
pub reads_no_commit : (sql : List ℕ) (params : Row) (old new : State) → OnlyReads sql → Survives old new (CommitsShowing sql params old)
    → Survives old new (λ _. ⊥)
unfolding CommitsShowing
reads_no_commit sql params old new plain =
    survives_weaker old new _ _ (λ _ db commits.
    let none = plain old.now.schema commits.0 commits.1.is in
    true≢false (sym (subst IsSome none commits.2)))

abbrev Rows : List Row → Vec Row Global → Type 0
Rows rows answer = answer.items ≡ rows

module _ (text : List ℕ) (params : Row) (old new : State) (mode : old.in_transaction ≡ false → new.in_transaction ≡ false)
    (survives : Survives old new (CommitsShowing text params old)) where
  pub asked_ok : (rows : Vec Row Global) → (HasCleanDisk new → Shown text params old new rows.items)
      → Asks Rows (λ _. ⊥) text params old new (Ok rows)
  asked_ok rows shown = record {
    reads = λ clean. (rows.items, shown clean, refl);
    spoils = λ clean e. absurd cc;
    disk = λ clean e. absurd cc;
    kept = λ clean plain. (shown_same text params old new rows.items plain (shown clean)).0.committed_is;
    same = λ clean plain. let it = (shown_same text params old new rows.items plain (shown clean)).0 in
        (it.was_open, it.is_open, it.now_is);
    stays = λ clean idle plain up. let it = (shown_same text params old new rows.items plain (shown clean)).0 in (it.was_open, it.now_is);
    leaves = λ clean plain.
        spared old new (Ok rows) (unchanged old new (shown_same text params old new rows.items plain (shown clean)));
    mode = mode;
    survives = survives;
  }

  pub asked_err : (e : Error) (fault : StoreFault) → fault ≡ fault_of e
      → (HasCleanDisk new → FailsToQuery text params old new e)
      → (old.in_transaction ≡ false → IsTrue old.is_open → old.now ≡ old.committed)
      → Asks {X = Vec Row Global} Rows (λ _. ⊥) text params old new (Err fault)
  asked_err e fault is fails settled = record {
    reads = λ clean. tt;
    spoils = λ clean h. absurd (never_unclean e (sym is ∙ told_is fault Unclean h));
    disk = λ clean h. (e, fails clean, sym is ∙ told_is fault Disk h);
    same = λ clean plain. tt;
    kept = λ clean plain. tt;
    stays = λ clean idle plain up. elim (failed_same text params old new e plain (fails clean)) [
      | inl it ↦ (it.0.was_open, it.0.now_is)
      | inr back ↦ (back.was_open up, (back.undone up).0 ∙ sym (settled idle (back.was_open up)))
    ];
    leaves = λ clean plain. record {
      done = tt;
      fault = elim (failed_same text params old new e plain (fails clean)) [
        | inl it ↦ inl (unchanged old new it)
        | inr back ↦ inr (rolled_back old new back)
      ];
    };
    mode = mode;
    survives = survives;
  }
    where
      never_unclean : (e : Error) → fault_of e ≡ Unclean → ⊥
      never_unclean (SqliteFailure code.OutOfMemory) h = cc
      never_unclean _ h = cc

      told_is : (a b : StoreFault) → ◌≡◌ {A = Result (Vec Row Global) StoreFault} (Err a) (Err b) → a ≡ b
      told_is a b h = cc

-- an answer of which more is known
pub reads_more : {X : Type 0} {Reads : List Row → X → Type 0} {Spoil : List Row → Type 0} {text : List ℕ} {params : Row} {old new : State}
    (More : X → Type 0) (result : Result X StoreFault) → IfOk result More → Asks Reads Spoil text params old new result
    → Asks (λ rows x. Reads rows x × More x) Spoil text params old new result
reads_more {X = X} {Reads = Reads} {text = text} {params = params} {old = old} {new = new} More result more asks = record {
  reads = λ clean. both result more (asks.reads clean);
  spoils = asks.spoils;
  disk = asks.disk;
  same = asks.same;
  kept = asks.kept;
  stays = asks.stays;
  leaves = asks.leaves;
  mode = asks.mode;
  survives = asks.survives;
}
  where
    both : (r : Result X StoreFault) → IfOk r More
        → IfOk r (λ x. (rows : List Row) × Shown text params old new rows × Reads rows x)
        → IfOk r (λ x. (rows : List Row) × Shown text params old new rows × (Reads rows x × More x))
    both (Ok x) more h = (h.0, h.1, (h.2, more))
    both (Err fault) more h = tt

-- what a look-up makes of the rows of an answer
pub asked_more : {X : Type 0} (Reads : List Row → X → Type 0) (Spoil : List Row → Type 0) (text : List ℕ) (params : Row) (old new : State)
    (rows : Vec Row Global) (result : Result X StoreFault) → Asks {X = Vec Row Global} Rows (λ _. ⊥) text params old new (Ok rows)
    → IfOk result (λ x. Reads rows.items x) → (result ≡ Err Unclean → Spoil rows.items) →
    IfErr result (λ fault. (fault ≡ Memory) ⊎ (fault ≡ Unclean)) → Asks Reads Spoil text params old new result
asked_more Reads Spoil text params old new rows (Ok x) asks right wrong other = record {
  reads = λ clean. let h = asks.reads clean in (h.0, h.1, subst (λ rs. Reads rs x) h.2 right);
  spoils = λ clean e. absurd cc;
  disk = λ clean e. absurd cc;
  same = asks.same;
  kept = asks.kept;
  stays = asks.stays;
  leaves = λ clean plain. spared old new (Ok x) (asks.leaves clean plain).done;
  mode = asks.mode;
  survives = asks.survives;
}
asked_more Reads Spoil text params old new rows (Err fault) asks right wrong other = record {
  reads = λ clean. tt;
  spoils = λ clean e. let h = asks.reads clean in (h.0, h.1, subst Spoil h.2 (wrong e));
  disk = λ clean e. absurd (elim other [ inl memory ↦ cc | inr unclean ↦ cc ]);
  same = λ clean plain. tt;
  kept = λ clean plain. tt;
  stays = asks.stays;
  leaves = λ clean plain. spared old new (Err fault) (asks.leaves clean plain).done;
  mode = asks.mode;
  survives = asks.survives;
}

-- Proves what the result of a statement means.
use Rattle.std.proofs.Common.{Bool, ◌==◌, if◌then◌else◌, ◌≡◌, ◌⊎◌, inl, inr, false, true, not, ℕ, List, [], ◌∷◌, Result, Ok}
use Rattle.std.proofs.Common.{Err, OnOk, OnErr}
use Rattle.std.proofs.Common.{IsTrue, refl, sym, subst, ap, ◌∙◌, true≢false}
use Rattle.std.proofs.lemmas.Bool.{cases_Bool}
use Rattle.sqlite_schema.specs.declared.schema.Constraint.TheVariants as rule
use Rattle.sqlite_trees.specs.declared.store.Store.{Ghosts}
use Rattle.sqlite_value.specs.Order.{Row}
use Rattle.sqlite.specs.declared.error.Error.{Error}
use Rattle.sqlite.specs.declared.error.Error.TheVariants.{SqliteFailure}
use Rattle.sqlite.specs.declared.error.ErrorCode.TheVariants as code
use Rattle.sqlite.specs.Held.{Held, state}
use Rattle.sqlite.specs.State.{State, HasCleanDisk, KeepsCommit, Survives, ExecutesInside}
use Rattle.sql_rows.proofs.Refusals.{not_unique}
use Rattle.sql_rows.proofs.Transactions.{kept_ran, kept_still, on_ok}
use Rattle.hub_tables.specs.Change.{apply_all}
use Rattle.hub_tables.specs.Sets.{Rising, Fit}
use Rattle.hub_tables.proofs.Back.{fit_after, rises_at}
use Rattle.hub_schema.proofs.Single.{hub_rises}
use Rattle.hub_tables.specs.Tables.{Tables}
use Rattle.hub_tables.specs.declared.change.Change.{Change}
use Rattle.hub_store.specs.Calls.{have_places}
use Rattle.hub_store.specs.declared.fault.StoreFault.{StoreFault}
use Rattle.hub_store.specs.declared.fault.StoreFault.TheVariants.{Unclean}
use Rattle.hub_schema.specs.Rows.{tables_in}
use Rattle.hub_schema.specs.State.{IsHub, IsUndone, Makes, ShowsTheSame, StatementLeaves}
use Rattle.hub_schema.proofs.Leaving.{executed_leaves}
use Rattle.hub_writes.specs.Faults.{placed, inserted, ended, refusal_of, fault_of}
use Rattle.hub_writes.specs.Acts.{Acts, MakesFirst}
use Rattle.hub_writes.proofs.Adds.{AddsRow}
use Rattle.hub_writes.proofs.Nowhere.{unplaced}
use Rattle.hub_writes.proofs.Sets.{Sets}
use Rattle.hub_schema.proofs.Same.{same_hub}

pub on_inserted : (A : Type 0) (r : Result ℕ Error) → OnOk r A → OnOk (inserted r) A
on_inserted A (Ok count) h = h
on_inserted A (Err e) h = tt

pub on_ended : {X : Type 0} (A : Type 0) (r : Result X Error) → OnOk r A → OnOk (ended r) A
on_ended A (Ok x) h = h
on_ended A (Err e) h = tt

at_ok : {X E P : Type 0} (r : Result X E) → P → OnOk r P
at_ok (Ok x) p = p
at_ok (Err e) p = tt

on_ok_at : {X E P : Type 0} {r : Result X E} {x : X} → r ≡ Ok x → OnOk r P → P
on_ok_at {r = Ok y} is h = h
on_ok_at {r = Err e} is h = cc

on_err_at : {X E P : Type 0} {r : Result X E} {e : E} → r ≡ Err e → OnErr r P → P
on_err_at {r = Ok y} is h = cc
on_err_at {r = Err e} is h = h

on_err : {X E A B : Type 0} (r : Result X E) → (A → B) → OnErr r A → OnErr r B
on_err (Ok x) f h = tt
on_err (Err e) f h = f h

err_inserted : (A : Type 0) (r : Result ℕ Error) → OnErr r A → OnErr (inserted r) A
err_inserted A (Ok count) h = tt
err_inserted A (Err e) h = h

err_ended : (A : Type 0) (r : Result ℕ Error) → OnErr r A → OnErr (ended r) A
err_ended A (Ok count) h = tt
err_ended A (Err e) h = h

-- a change that a hub's tables accept fits them
fits_one : (change : Change) (old new : State) → IsHub old → Makes (apply_all (change ∷ [])) old new
    → Fit (change ∷ []) (tables_in old.now.trees)
fits_one change old new hub did = (
  rises_at change (tables_in old.now.trees) (hub_rises old hub),
  subst Rising did.tables (hub_rises new did.hub),
)

-- only an existing key gives `Unclean`
refused_so : (e : Error) → refusal_of e ≡ Unclean → e ≡ not_unique
refused_so (SqliteFailure (code.ConstraintViolation rule.Unique)) h = refl
refused_so e h = cc

never_unclean : (e : Error) → fault_of e ≡ Unclean → ⊥
never_unclean (SqliteFailure code.OutOfMemory) h = cc
never_unclean e h = cc

pub no_unclean : {X : Type 0} (r : Result X Error) → ended r ≡ Err Unclean → ⊥
no_unclean (Ok x) h = cc
no_unclean (Err e) h = never_unclean e (let same : fault_of e ≡ Unclean = cc in same)

-- what `execute` guarantees for a statement in a transaction
pub record Executed {S : Type 0} (g : Ghosts S) (sql : List ℕ) (params : Row) (old new : Held S) (r : Result ℕ Error) :
    Type 0 where
  pub ended : (state g old).in_transaction ≡ false → (r ≡ Err (SqliteFailure code.TransactionState)) × (new ≡ old)
  pub runs : HasCleanDisk (state g new) → IsTrue (state g old).in_transaction
      → ExecutesInside 0 sql params (state g old) (state g new) r
  pub survives : Survives (state g old) (state g new) (λ _. ⊥)

-- if the values that it was given are these cells
pub executed : {S : Type 0} (g : Ghosts S) (sql : List ℕ) (cells values : Row) (old new : Held S) (r : Result ℕ Error)
    → ((state g old).in_transaction ≡ false → (r ≡ Err (SqliteFailure code.TransactionState)) × (new ≡ old))
    → (HasCleanDisk (state g new) → IsTrue (state g old).in_transaction
    → ExecutesInside 0 sql values (state g old) (state g new) r)
    → Survives (state g old) (state g new) (λ _. ⊥) → values ≡ cells → Executed g sql cells old new r
executed g sql cells values old new r ended runs survives are = record {
  ended = ended;
  runs = λ clean begun.
      subst (λ row. ExecutesInside 0 sql row (state g old) (state g new) r) are (runs clean begun);
  survives = survives;
}

-- a change that failed and left everything as it was
pub first_failed : (change : Change) (old new : State) → old.in_transaction ≡ true → ShowsTheSame old new
    → MakesFirst (change ∷ []) old new
first_failed change old new begun same = record {
  made = [];
  failed = change;
  left = [];
  are = refl;
  makes = λ hub. record {
    hub = same_hub old new same.rows hub;
    tables = ap (λ d. tables_in d.trees) same.rows;
    committed = same.committed;
    mode = same.mode ∙ begun;
  };
  is_open = same.is_open;
}

module _ {S : Type 0} (g : Ghosts S) (sql : List ℕ) (params : Row) (old new : Held S) (r : Result ℕ Error) (did :
    Executed g sql params old new r) where
  kept : HasCleanDisk (state g new) → KeepsCommit (state g old) (state g new)
  kept clean = elim (cases_Bool old.in_transaction) [
    | inl begun ↦ kept_ran sql params (state g old) (state g new) r (did.runs clean begun)
    | inr none ↦ subst (λ h. KeepsCommit (state g old) (state g h)) (sym (did.ended none).1) (kept_still (state g old))
  ]

  left_by : StatementLeaves (state g old) (state g new) r
  left_by = executed_leaves g sql params old new r did.ended did.runs

  abbrev Stands : Type 0
  Stands = IsTrue (state g new).is_open × IsTrue new.in_transaction

  stands_if : (out : Result ℕ Error) → ExecutesInside 0 sql params (state g old) (state g new) out → OnOk out Stands
  stands_if (Ok count) h = (h.1.is_open, h.1.mode)
  stands_if (Err e) h = tt

  no_result : (A : Type 0) (out : Result ℕ Error) (e : Error) → out ≡ Err e → OnOk out A
  no_result A (Ok count) e is = absurd cc
  no_result A (Err f) e is = tt

  stands : HasCleanDisk (state g new) → OnOk r Stands
  stands clean = elim (cases_Bool old.in_transaction) [
    | inl begun ↦ stands_if r (did.runs clean begun)
    | inr none ↦ no_result _ r _ (did.ended none).0
  ]

  -- if it failed, nothing of the change is made
  stops : (change : Change) → HasCleanDisk (state g new) → IsTrue old.in_transaction
      → OnErr r (MakesFirst (change ∷ []) (state g old) (state g new) ⊎ IsUndone (state g old) (state g new))
  stops change clean begun = on_err r (λ it. elim it [
    | inl same ↦ inl (first_failed change (state g old) (state g new) begun same)
    | inr back ↦ inr back
  ]) (left_by.fault clean begun)

  error_of : (out : Result ℕ Error) → r ≡ out → inserted out ≡ Err Unclean → r ≡ Err not_unique
  error_of (Ok count) is h = absurd cc
  error_of (Err e) is h = let same : refusal_of e ≡ Unclean = cc in is ∙ ap (λ (x : Error). Err x) (refused_so e same)

  -- an INSERT
  pub insert_acts : (change : Change) → AddsRow change sql params
      → (out : Result (Unit {0}) StoreFault) → out ≡ inserted r → Acts (change ∷ []) (state g old) (state g new) out
  insert_acts change it out is = subst (Acts (change ∷ []) (state g old) (state g new)) (sym is) (record {
    makes = λ clean hub begun. on_inserted _ r (it.makes (state g old) (state g new) r hub begun (did.runs clean begun));
    places = λ clean hub begun. at_ok (inserted r) (it.placed (tables_in (state g old).now.trees));
    fits = λ clean hub begun. on_inserted _ r (on_ok r (fits_one change (state g old) (state g new) hub)
        (it.makes (state g old) (state g new) r hub begun (did.runs clean begun)));
    unclean = λ clean h. let e = error_of r refl h in
        inl (elim (cases_Bool old.in_transaction) [
          | inl begun ↦
              let no_fit = it.fits_not (state g old) (state g new)
              (subst (ExecutesInside 0 sql params (state g old) (state g new)) e (did.runs clean begun)) in
              (no_fit.0, λ hub fit _. absurd (no_fit.1 hub (fit_after (change ∷ []) (tables_in (state g old).now.trees) fit)))
          | inr none ↦ absurd (let no = sym e ∙ (did.ended none).0 in cc)
        ]);
    stands = λ clean. on_inserted _ r (stands clean);
    fault = λ clean begun. err_inserted _ r (stops change clean begun);
    ended = λ none. (on_inserted _ r (left_by.ended none).0, (left_by.ended none).1);
    kept = kept;
    survives = did.survives;
  })

  -- a statement that does nothing
  pub touch_acts : ((e : Error) → ExecutesInside 0 sql params (state g old) (state g new) (Err e)
      → IsUndone (state g old) (state g new))
      → (IsHub (state g old) → old.in_transaction ≡ true
      → ExecutesInside 0 sql params (state g old) (state g new) r
      → OnOk r (Makes (apply_all []) (state g old) (state g new)))
      → (out : Result (Unit {0}) StoreFault) → out ≡ ended r → Acts [] (state g old) (state g new) out
  touch_acts undone makes out is = subst (Acts [] (state g old) (state g new)) (sym is) (record {
    makes = λ clean hub begun. on_ended _ r (makes hub begun (did.runs clean begun));
    places = λ clean hub begun. at_ok (ended r) refl;
    fits = λ clean hub begun. at_ok (ended r) (hub_rises (state g old) hub);
    unclean = λ clean h. absurd (no_unclean r h);
    stands = λ clean. on_ended _ r (stands clean);
    fault = λ clean begun. fails r (did.runs clean begun);
    ended = λ none. (on_ended _ r (left_by.ended none).0, (left_by.ended none).1);
    kept = kept;
    survives = did.survives;
  })
    where
      fails : (out : Result ℕ Error) → ExecutesInside 0 sql params (state g old) (state g new) out
          → OnErr (ended out) (MakesFirst [] (state g old) (state g new) ⊎ IsUndone (state g old) (state g new))
      fails (Ok count) h = tt
      fails (Err e) h = inr (undone e h)

  -- a DELETE, whichever rows it finds
  pub delete_acts : (change : Change) → ((t : Tables) → have_places (change ∷ []) t ≡ true)
      → (IsHub (state g old) → old.in_transaction ≡ true
      → ExecutesInside 0 sql params (state g old) (state g new) r
      → OnOk r (Makes (apply_all (change ∷ [])) (state g old) (state g new)))
      → (out : Result (Unit {0}) StoreFault) → out ≡ ended r → Acts (change ∷ []) (state g old) (state g new) out
  delete_acts change there makes out is = subst (Acts (change ∷ []) (state g old) (state g new)) (sym is) (record {
    makes = λ clean hub begun. on_ended _ r (makes hub begun (did.runs clean begun));
    places = λ clean hub begun. at_ok (ended r) (there (tables_in (state g old).now.trees));
    fits = λ clean hub begun. on_ended _ r
        (on_ok r (fits_one change (state g old) (state g new) hub) (makes hub begun (did.runs clean begun)));
    unclean = λ clean h. absurd (no_unclean r h);
    stands = λ clean. on_ended _ r (stands clean);
    fault = λ clean begun. err_ended _ r (stops change clean begun);
    ended = λ none. (on_ended _ r (left_by.ended none).0, (left_by.ended none).1);
    kept = kept;
    survives = did.survives;
  })

  -- an UPDATE that must find a row, and that returns how many it found
  module _ (change : Change) (setting : Sets change sql params) where
    makes : IsHub (state g old) → old.in_transaction ≡ true
        → ExecutesInside 0 sql params (state g old) (state g new) r
        → OnOk r (Makes (apply_all (change ∷ [])) (state g old) (state g new))
    makes = setting.makes (state g old) (state g new) r

    met : IsHub (state g old) → old.in_transaction ≡ true → (count : ℕ)
        → ExecutesInside 0 sql params (state g old) (state g new) (Ok count)
        → have_places (change ∷ []) (tables_in (state g old).now.trees) ≡ not (count == 0)
    met = setting.met (state g old) (state g new)

    ran : (count : ℕ) → r ≡ Ok count → HasCleanDisk (state g new)
        → IsTrue old.in_transaction × ExecutesInside 0 sql params (state g old) (state g new) (Ok count)
    ran count is clean = elim (cases_Bool old.in_transaction) [
      | inl begun ↦
          (begun, subst (ExecutesInside 0 sql params (state g old) (state g new)) is (did.runs clean begun))
      | inr none ↦ absurd (let bad = sym is ∙ (did.ended none).0 in cc)
    ]

    never : (A : Type 0) (count : ℕ) → r ≡ Ok count → old.in_transaction ≡ false → A
    never A count is none = absurd (let bad = sym is ∙ (did.ended none).0 in cc)

    -- it found none, and the tables are as before
    met_none : (count : ℕ) → r ≡ Ok count → (count == 0) ≡ true → HasCleanDisk (state g new)
        → MakesFirst (change ∷ []) (state g old) (state g new)
    met_none count is e clean =
        let it = ran count is clean in
        record {
          made = [];
          failed = change;
          left = [];
          are = refl;
          makes = λ hub.
              let did = on_ok_at is (makes hub it.0 (subst (ExecutesInside 0 sql params (state g old) (state g new)) (sym is) it.1)) in
              record {
                hub = did.hub;
                tables = did.tables
                    ∙ unplaced change (tables_in (state g old).now.trees) (met hub it.0 count it.1 ∙ ap not e);
                committed = did.committed;
                mode = did.mode;
              };
          is_open = it.1.1.is_open ∙ sym it.1.1.was_open;
        }

    counted : (count : ℕ) → r ≡ Ok count → (b : Bool) → (count == 0) ≡ b
        → Acts (change ∷ []) (state g old) (state g new) (if b then Err Unclean else Ok tt)
    counted count is false e = record {
      makes = λ clean hub begun. on_ok_at is (makes hub begun (did.runs clean begun));
      places = λ clean hub begun. met hub begun count (ran count is clean).1 ∙ ap not e;
      fits = λ clean hub begun.
          fits_one change (state g old) (state g new) hub (on_ok_at is (makes hub begun (did.runs clean begun)));
      unclean = λ clean h. absurd (let bad = h in cc);
      stands = λ clean. on_ok_at is (stands clean);
      fault = λ clean begun. tt;
      ended = λ none. never _ count is none;
      kept = kept;
      survives = did.survives;
    }
    counted count is true e = record {
      makes = λ clean hub begun. tt;
      places = λ clean hub begun. tt;
      fits = λ clean hub begun. tt;
      unclean = λ clean h.
          let it = ran count is clean in
          inl (it.1.1.was_open, λ hub rising have. absurd (true≢false (sym have ∙ met hub it.0 count it.1 ∙ ap not e)));
      stands = λ clean. tt;
      fault = λ clean begun. inl (met_none count is e clean);
      ended = λ none. never _ count is none;
      kept = kept;
      survives = did.survives;
    }

    sets : (out : Result ℕ Error) → r ≡ out → Acts (change ∷ []) (state g old) (state g new) (placed out)
    sets (Ok count) is = counted count is (count == 0) refl
    sets (Err e) is = record {
      makes = λ clean hub begun. tt;
      places = λ clean hub begun. tt;
      fits = λ clean hub begun. tt;
      unclean = λ clean h. absurd (never_unclean e (let same : fault_of e ≡ Unclean = cc in same));
      stands = λ clean. tt;
      fault = λ clean begun. on_err_at is (stops change clean begun);
      ended = λ none. (tt, (left_by.ended none).1);
      kept = kept;
      survives = did.survives;
    }

    pub set_acts : (out : Result (Unit {0}) StoreFault) → out ≡ placed r
        → Acts (change ∷ []) (state g old) (state g new) out
    set_acts out is = subst (Acts (change ∷ []) (state g old) (state g new)) (sym is) (sets r refl)

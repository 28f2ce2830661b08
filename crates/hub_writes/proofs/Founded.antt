-- Proves what a founding leaves once its transaction has ended.
use Rattle.std.proofs.Common.{◌≡◌, inl, inr, true, false, Result, Ok, Err, OnOk, IfErr, IsTrue, sym, ap, subst, ◌∙◌, true≢false}
use Rattle.sqlite_trees.specs.Tree.{Trees}
use Rattle.sqlite_trees.specs.declared.store.Store.{Ghosts}
use Rattle.sqlite.specs.Effect.{IsDatabase}
use Rattle.sqlite.specs.Held.{Held, state}
use Rattle.sqlite.specs.Schema.{Schema}
use Rattle.sqlite.specs.State.{State, HasCleanDisk, IsRolledBack, KeepsCommit, Shows, Survives}
use Rattle.sqlite.specs.Steps.{FailsToCommit}
use Rattle.sqlite.specs.declared.error.Error.{Error}
use Rattle.sqlite.proofs.Callers.{survives_begin}
use Rattle.sqlite.proofs.StateLemmas.{survives_then}
use Rattle.sql_rows.proofs.Transactions.{clean_before, lasts}
use Rattle.hub_tables.specs.Tables.{Tables}
use Rattle.hub_store.specs.declared.fault.StoreFault.{StoreFault}
use Rattle.hub_schema.specs.Rows.{tables_in}
use Rattle.hub_schema.specs.State.{IsHub, IsFounded, Makes, ShowsTheSame, FoundsTo}
use Rattle.hub_writes.specs.Faults.{ended}
use Rattle.hub_schema.proofs.Same.{same_hub}

-- what a statement that succeeded did
pub ended_ok : {X : Type 0} (r : Result X Error) (P : Type 0) → OnOk r P → OnOk (ended r) P
ended_ok (Ok x) P h = h
ended_ok (Err e) P h = tt

-- the database of a hub, by its rows
is_founded : (rows : Tables) (s : State) → IsHub s → tables_in s.now.trees ≡ rows → IsFounded rows s.now.trees
is_founded rows s hub same = record {
  tables = subst (λ (schema : Schema). IsDatabase (record { schema = schema; trees = s.now.trees })) hub.schema hub.sound;
  numbered = hub.numbered;
  rows = same;
}

module _ {S : Type 0} (g : Ghosts S) (old mid end out : Held S) (same : end ≡ out) (asked : Type 0) (rows : Tables)
    (idle : old.in_transaction ≡ false)
    (settled : IsTrue (state g old).is_open → (state g old).now ≡ (state g old).committed) where
  abbrev begun : State
  begun = state g (record old { in_transaction = true })

  -- it was rolled back
  back_again : KeepsCommit begun (state g mid) → IsRolledBack (state g mid) (state g end)
      → IsTrue (state g end).is_open → ShowsTheSame (state g old) (state g end)
  back_again kept back up =
      let between = back.was_open up in
      let before = kept.was_open between in
      record {
        rows = (back.undone up).0 ∙ kept.committed between ∙ sym (settled before);
        committed = (back.undone up).1 ∙ kept.committed between;
        mode = back.autocommit ∙ sym idle;
        is_open = up ∙ sym before;
      }

  -- what the call returns
  given : (result told : Result (Unit {0}) StoreFault) → result ≡ told
      → FoundsTo asked rows (state g old) (state g end) told → FoundsTo asked rows (state g old) (state g out) result
  given result told is founds =
      subst (λ (h : Held S). FoundsTo asked rows (state g old) (state g h) result) same
      (subst (FoundsTo asked rows (state g old) (state g end)) (sym is) founds)

  module _ (kept : HasCleanDisk (state g mid) → KeepsCommit begun (state g mid))
      (one : Survives begun (state g mid) (λ _. ⊥)) (quiet : end.in_transaction ≡ false) where
    -- the rows were not made, and the transaction is rolled back
    pub failed : (fault : StoreFault) → (HasCleanDisk (state g end) → IsRolledBack (state g mid) (state g end))
        → Survives (state g mid) (state g end) (λ _. ⊥) → (result : Result (Unit {0}) StoreFault) → result ≡ Err fault
        → FoundsTo asked rows (state g old) (state g out) result
    failed fault back last result is = given result (Err fault) is (record {
      done = λ clean so. tt;
      durable = λ clean. tt;
      kept = λ clean so up. back_again (kept (clean_before (state g mid) (state g end) _ last clean)) (back clean) up;
      mode = quiet;
      crash = survives_then (state g old) (state g mid) (state g end) _ _ _ (λ _ db none. absurd none)
          (λ _ db none. absurd none) (survives_begin g old (state g mid) _ one) last;
    })

    module _ (makes : HasCleanDisk (state g mid) → asked → Makes (λ _. rows) begun (state g mid))
        (last : Survives (state g mid) (state g end) (λ db. db ≡ (state g mid).now.trees)) where
      early : HasCleanDisk (state g end) → HasCleanDisk (state g mid)
      early = clean_before (state g mid) (state g end) _ last

      survived : Survives (state g old) (state g end) (λ trees. asked → IsFounded rows trees)
      survived = survives_then (state g old) (state g mid) (state g end) _ _ _ (λ _ db none. absurd none)
          (λ clean db is so.
          let did = makes (early clean) so in
          subst (IsFounded rows) (sym is) (is_founded rows (state g mid) did.hub did.tables))
          (survives_begin g old (state g mid) _ one) last

      none_done : HasCleanDisk (state g end) → asked → IsTrue (state g end).is_open
          → (e : Error) → FailsToCommit (state g mid) (state g end) e → ShowsTheSame (state g old) (state g end)
      none_done clean so up e (inl fails) = back_again (kept (early clean)) fails.3 up
      none_done clean so up e (inr late) = absurd (true≢false (sym (makes (early clean) so).mode ∙ late.1))

      -- the transaction ends with a commit, and both give one result
      pub succeeded : (r : Result (Unit {0}) Error)
          → (HasCleanDisk (state g end)
          → OnOk r (Shows (state g mid) (state g end) (state g mid).now (state g mid).now false))
          → (HasCleanDisk (state g end) → IfErr r (FailsToCommit (state g mid) (state g end)))
          → ((db : Trees) → IsTrue (state g end).is_open → (state g end).may_leave db
          → db ≡ (state g end).committed.trees) → (result : Result (Unit {0}) StoreFault) → result ≡ ended r
          → FoundsTo asked rows (state g old) (state g out) result
      succeeded (Ok u) ok err law result is = given result (ended (Ok u)) is (record {
        done = λ clean so.
            let did = makes (early clean) so in
            let shows = ok clean in (
              shows.is_open,
              same_hub (state g mid) (state g end) shows.now_is did.hub,
              ap (λ d. tables_in d.trees) shows.now_is ∙ did.tables,
            );
        durable = λ clean. lasts (state g mid) (state g end) (ok clean) law;
        kept = λ clean so up. tt;
        mode = quiet;
        crash = survived;
      })
      succeeded (Err e) ok err law result is = given result (ended {X = Unit {0}} (Err e)) is (record {
        done = λ clean so. tt;
        durable = λ clean. tt;
        kept = λ clean so up. none_done clean so up e (err clean);
        mode = quiet;
        crash = survived;
      })

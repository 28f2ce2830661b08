-- Shows what a failed statement leaves.
use Rattle.std.proofs.Common.{◌≡◌, ◌⊎◌, inl, inr, ℕ, false, IsTrue, List, Result, Ok, Err, OnOk, OnErr, refl, sym, subst}
use Rattle.std.proofs.Common.{◌∙◌}
use Rattle.sqlite_trees.specs.declared.store.Store.{Ghosts}
use Rattle.sqlite_value.specs.Order.{Row}
use Rattle.sqlite.specs.declared.error.Error.{Error}
use Rattle.sqlite.specs.declared.error.Error.TheVariants.{SqliteFailure}
use Rattle.sqlite.specs.declared.error.ErrorCode.TheVariants.{TransactionState}
use Rattle.sqlite.specs.Held.{Held, state}
use Rattle.sqlite.specs.State.{State, HasCleanDisk, ExecutesInside, IsUnchanged, IsRolledBack, KeepsCommit}
use Rattle.hub_schema.specs.State.{ShowsTheSame, IsUndone, StatementLeaves, Spares}

pub still : (s : State) → ShowsTheSame s s
still s = record { rows = refl; committed = refl; mode = refl; is_open = refl }

pub unchanged : (old new : State) → IsUnchanged old new → ShowsTheSame old new
unchanged old new it = record {
  rows = it.0.now_is;
  committed = it.0.committed_is;
  mode = it.0.mode;
  is_open = it.0.is_open ∙ sym it.0.was_open;
}

pub rolled_back : (old new : State) → IsRolledBack old new → IsUndone old new
rolled_back old new it = record {
  ended = it.autocommit;
  was_open = it.was_open;
  rows = λ up. (it.undone up).0;
  committed = λ up. (it.undone up).1;
}

pub same_then : (a b c : State) → ShowsTheSame a b → ShowsTheSame b c → ShowsTheSame a c
same_then a b c one two = record {
  rows = two.rows ∙ one.rows;
  committed = two.committed ∙ one.committed;
  mode = two.mode ∙ one.mode;
  is_open = two.is_open ∙ one.is_open;
}

-- undone later, after nothing was committed
pub undone_later : (a b c : State) → KeepsCommit a b → IsUndone b c → IsUndone a c
undone_later a b c kept back = record {
  ended = back.ended;
  was_open = λ up. kept.was_open (back.was_open up);
  rows = λ up. back.rows up ∙ kept.committed (back.was_open up);
  committed = λ up. back.committed up ∙ kept.committed (back.was_open up);
}

pub keeps_commit : (old new : State) → ShowsTheSame old new → KeepsCommit old new
keeps_commit old new it = record { was_open = λ up. sym it.is_open ∙ up; committed = λ _. it.committed }

-- a call that leaves everything as it was, whatever it returns
pub spared : {X E : Type 0} (old new : State) (result : Result X E) → ShowsTheSame old new → Spares old new result
spared old new (Ok x) same = record { done = same; fault = tt }
spared old new (Err e) same = record { done = tt; fault = inl same }

-- a look-up after one that changed nothing
pub spares_then : {X E : Type 0} (a b c : State) (result : Result X E) → ShowsTheSame a b → Spares b c result
    → Spares a c result
spares_then a b c (Ok x) one two = record { done = same_then a b c one two.done; fault = tt }
spares_then a b c (Err e) one two = record {
  done = tt;
  fault = elim two.fault [
    | inl same ↦ inl (same_then a b c one same)
    | inr back ↦ inr (undone_later a b c (keeps_commit a b one) back)
  ];
}

pub failed_inside : (sql : List ℕ) (params : Row) (old new : State) (result : Result ℕ Error)
    → ExecutesInside 0 sql params old new result → OnErr result (ShowsTheSame old new ⊎ IsUndone old new)
failed_inside sql params old new (Ok count) h = tt
failed_inside sql params old new (Err e) (inl (ran, inl same)) = inl (unchanged old new same)
failed_inside sql params old new (Err e) (inl (ran, inr back)) = inr (rolled_back old new back)
failed_inside sql params old new (Err e) (inr (ends, is, same)) = inl (unchanged old new same)

never_ok : {X E : Type 0} (result : Result X E) (e : E) → result ≡ Err e → OnOk result ⊥
never_ok (Ok x) e is = absurd cc
never_ok (Err f) e is = tt

-- what `execute` leaves
module _ {S : Type 0} (g : Ghosts S) (sql : List ℕ) (params : Row) (old new : Held S) (result : Result ℕ Error)
    (ended : (state g old).in_transaction ≡ false → (result ≡ Err (SqliteFailure TransactionState)) × (new ≡ old))
    (runs : HasCleanDisk (state g new) → IsTrue (state g old).in_transaction
    → ExecutesInside 0 sql params (state g old) (state g new) result) where
  pub executed_leaves : StatementLeaves (state g old) (state g new) result
  executed_leaves = record {
    fault = λ clean begun. failed_inside sql params (state g old) (state g new) result (runs clean begun);
    ended = λ none. let it = ended none in
        (never_ok result _ it.0, subst (λ h. ShowsTheSame (state g old) (state g h)) (sym it.1) (still (state g old)));
  }

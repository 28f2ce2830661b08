-- Proves what a transaction and its statements leave.
use Rattle.std.proofs.Common.{ℕ, ◌≡◌, inl, inr, IsTrue, Result, Ok, Err, OnOk, OnErr, IfErr, refl, sym, ap, ◌∙◌, arith}
use Rattle.std.proofs.Common.{false, List}
use Rattle.sqlite_trees.specs.Tree.{Trees}
use Rattle.sqlite_value.specs.Order.{Row}
use Rattle.sqlite.specs.declared.error.Error.{Error}
use Rattle.sqlite.specs.State.{ExecutesInside, State, HasCleanDisk, KeepsCommit, IsRolledBack, Survives, Shows}

pub kept_then : (a b c : State) → KeepsCommit a b → KeepsCommit b c → KeepsCommit a c
kept_then a b c p q = record {
  was_open = λ o. p.was_open (q.was_open o);
  committed = λ o. q.committed o ∙ p.committed
      (q.was_open o);
}

pub kept_still : (s : State) → KeepsCommit s s
kept_still s = record { was_open = λ o. o; committed = λ o. refl }

pub survives_still : (s : State) → Survives s s (λ _. ⊥)
survives_still s = record {
  clean = omega arith;
  shield = λ h. h;
  counts = omega arith;
  limit = refl;
  closes = λ clean
      o. inl o;
  crash = λ clean db left. inl left;
}

pub clean_before : (a b : State) (P : _) → Survives a b P → HasCleanDisk b → HasCleanDisk a
clean_before a b P s clean = omega (arith, s.clean)

-- what a transaction that failed leaves
pub undone : (old begun mid new : State) → begun.committed ≡ old.committed →
    (IsTrue begun.is_open → IsTrue old.is_open) → (IsTrue old.is_open → old.now ≡ old.committed)
    → KeepsCommit begun mid → IsRolledBack mid new → IsTrue new.is_open
    → new.now ≡ old.now
undone old begun mid new same was settled kept back o =
    let m = back.was_open o in
    (back.undone o).0 ∙ kept.committed m ∙ same ∙ sym (settled (was (kept.was_open m)))

pub on_ok : {T E A B : Type 0} (r : Result T E) → (A → B) → OnOk r A → OnOk r B
on_ok (Ok x) f h = f h
on_ok (Err e) f h = tt

pub err_on : {T E B : Type 0} {P : E → Type 0} (r : Result T E) → ((e : E) → P e → B) → IfErr r P → OnErr r B
err_on (Ok x) f h = tt
err_on (Err e) f h = f e h

-- a statement inside a transaction does not change what is committed
pub kept_ran : (sql : List ℕ) (params : Row) (old new : State) (r : Result ℕ Error)
    → ExecutesInside 0 sql params old new r → KeepsCommit old new
kept_ran sql params old new (Ok count) h = record { was_open = λ _. h.1.was_open; committed = λ _. h.1.committed_is }
kept_ran sql params old new (Err e) (inl (ran, inl same)) =
    record { was_open = λ _. same.0.was_open; committed = λ _. same.0.committed_is }
kept_ran sql params old new (Err e) (inl (ran, inr back)) =
    record { was_open = back.was_open; committed = λ o. (back.undone o).1 }
kept_ran sql params old new (Err e) (inr (ends, is, same)) =
    record { was_open = λ _. same.0.was_open; committed = λ _. same.0.committed_is }

-- a crash leaves exactly what was committed
pub lasts : (old new : State) → Shows old new old.now old.now false →
    ((db : Trees) → IsTrue new.is_open → new.may_leave db → db ≡ new.committed.trees) → (trees : Trees)
    → new.may_leave trees → trees ≡ new.now.trees
lasts old new h settled trees left =
    settled trees h.is_open left ∙ ap (λ d. d.trees) h.committed_is ∙ ap (λ d. d.trees) (sym h.now_is)

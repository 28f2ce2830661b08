-- Shows that every order line balances.
use Rattle.std.proofs.Common.{ℕ, Bool, true, false, cond, List, [], ◌∷◌, filter, refl, subst}
use Rattle.std.specs.List.{AllByRecursion}
use Rattle.hub_parties.specs.declared.row.SupplierRow.{SupplierRow}
use Rattle.hub_tables.specs.Rows.{same}
use Rattle.hub_tables.specs.Tables.{Tables, view}
use Rattle.hub_tables.proofs.Lists.{same_if}
use Rattle.hub_rules.specs.Sound.{Balanced, Sound}

-- what holds for each supplier's rows holds for all rows
of_each : {X : Type 0} (owner : X → List ℕ) (P : List ℕ → X → Type 0) (rows : List X)
    → ((gln : List ℕ) → AllByRecursion (P gln) (filter (λ row. same (owner row) gln) rows))
    → AllByRecursion (λ row. P (owner row) row) rows
of_each owner P [] each = tt
of_each owner P (row ∷ rows) each = (
  (subst (λ v. AllByRecursion (P (owner row)) (cond v (row ∷ filter (λ other. same (owner other) (owner row)) rows)
      (filter (λ other. same (owner other) (owner row)) rows))) (same_if (owner row) (owner row) refl) (each (owner row))).0,
  of_each owner P rows (λ gln. later gln (same (owner row) gln) (each gln)),
)
  where
    later : (gln : List ℕ) (v : Bool)
        → AllByRecursion (P gln)
        (cond v (row ∷ filter (λ other. same (owner other) gln) rows) (filter (λ other. same (owner other) gln) rows))
        → AllByRecursion (P gln) (filter (λ other. same (owner other) gln) rows)
    later gln true all = all.1
    later gln false all = all

pub lines_balance : (suppliers : List SupplierRow) (t : Tables)
    → Sound suppliers t
    → AllByRecursion (λ line. Balanced (view line.supplier t) line) t.lines
lines_balance suppliers t sound = of_each (λ line. line.supplier) (λ gln. Balanced (view gln t)) t.lines (λ gln. (sound.kept gln).balanced)

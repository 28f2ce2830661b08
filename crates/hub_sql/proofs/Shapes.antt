-- Shows that the trees of a store that is not broken are open and in order.
use Rattle.std.proofs.Common.{◌≡◌, inl, inr, ℕ, false, List, [], ◌∷◌, IsTrue, sym, subst, true≢false, ◌∙◌}
use Rattle.std.specs.List.{AllByRecursion}
use Rattle.std.proofs.lemmas.Bool.{cases_Bool}
use Rattle.sqlite.specs.Table as declared
use Rattle.sqlite_trees.specs.Tree.{Trees}
use Rattle.sqlite_trees.specs.View.{View, IsShaped, IsOrdered}
use Rattle.sqlite_trees.specs.declared.store.Shape.{Shape}
use Rattle.sqlite_trees.specs.declared.store.Shape.TheVariants.{Table}
use Rattle.hub_schema.specs.State.{AreTables}

-- a store that is not broken is open
pub open_if_whole : (v : View) → (v.is_open ≡ false → IsTrue v.is_broken) → v.is_broken ≡ false → IsTrue v.is_open
open_if_whole v law whole =
    elim (cases_Bool v.is_open) [ inl up ↦ up | inr down ↦ absurd (true≢false (sym (law down) ∙ whole)) ]

-- the trees of tables are in order
pub all_shaped : (shape : ℕ → Shape) (trees : Trees) (tables : List declared.Table) → IsOrdered shape trees
    → AreTables shape tables → AllByRecursion (λ table. IsShaped Table (trees table.tree)) tables
all_shaped shape trees [] law are = tt
all_shaped shape trees (table ∷ tables) law are =
    (subst (λ s. IsShaped s (trees table.tree)) are.0 (law table.tree), all_shaped shape trees tables law are.1)

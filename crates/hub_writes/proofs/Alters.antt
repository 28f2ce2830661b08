-- Proves what altering one table of a hub inside a transaction does.
use Rattle.std.proofs.Common.{◌≡◌, ◌≢◌, inl, inr, ℕ, ◌==◌, true, false, List, [], ◌∷◌, map, pos, if◌then◌else◌, IsTrue}
use Rattle.std.proofs.Common.{sym, ap, subst, ◌∙◌, arith}
use Rattle.std.specs.List.{AllByRecursion}
use Rattle.std.proofs.lemmas.Bool.Decides.{eqb_tells, nat_tests}
use Rattle.sqlite_value.specs.declared.value.Value.TheVariants.{Int}
use Rattle.sqlite_value.specs.Order.{Row, column}
use Rattle.sqlite_trees.specs.Tree.{Trees, with_tree}
use Rattle.sqlite_trees.specs.View.{IsShaped}
use Rattle.sqlite_trees.specs.declared.store.Shape.TheVariants as shape
use Rattle.sqlite_schema.specs.declared.command.Command.{Command}
use Rattle.sqlite.specs.Effect.{IsDatabase}
use Rattle.sqlite.specs.Listing.{understood}
use Rattle.sqlite.specs.State.{State, Shows}
use Rattle.sqlite.proofs.Callers.{IsPlain, command_of}
use Rattle.hub_schema.specs.Rows.{tables_in}
use Rattle.hub_schema.specs.Schema.{hub_schema}
use Rattle.hub_schema.specs.State.{IsHub}

-- what a text is read as, and that it has nothing else
abbrev pub ReadsAs : List ℕ → Command → Type 0
ReadsAs sql command = (command_of (understood hub_schema sql) ≡ command) × IsPlain (understood hub_schema sql)

abbrev pub all_trees : List ℕ
all_trees = 0 ∷ 1 ∷ 3 ∷ 5 ∷ 7 ∷ 10 ∷ 12 ∷ 14 ∷ 16 ∷ 18 ∷ 20 ∷ 22 ∷ []

-- each of these trees but one is as before
abbrev pub KeepsOthers : ℕ → List ℕ → Trees → Trees → Type 0
KeepsOthers tree trees old new = AllByRecursion (λ t. t ≢ tree → new t ≡ old t) trees

-- one table gets these rows
pub record Alters (tree : ℕ) (after : List Row) (old new : State) : Type 0 where
  pub schema : new.now.schema ≡ hub_schema
  pub sound : IsDatabase new.now
  pub shaped : IsShaped shape.Table after
  pub rows : new.now.trees tree ≡ after
  pub others : KeepsOthers tree all_trees old.now.trees new.now.trees
  pub committed : new.committed ≡ old.committed
  pub mode : IsTrue new.in_transaction

module _ (tree : ℕ) (rows : List Row) (old new : Trees) (is : new tree ≡ rows) where
  each_tree : (trees : List ℕ) → KeepsOthers tree trees old new
      → AllByRecursion (λ t. new t ≡ with_tree old tree rows t) trees
  each_tree [] others = tt
  each_tree (t ∷ trees) others = (
    elim (eqb_tells t tree) [
      | inl here ↦ ap new here.1 ∙ is ∙ ap (λ b. if b then rows else old t) (sym here.0)
      | inr other ↦ others.0 other.1 ∙ ap (λ b. if b then rows else old t) (sym other.0)
    ],
    each_tree trees others.1,
  )

-- all tables, with this one altered
pub tables_are : (tree : ℕ) (rows : List Row) (old new : State) → Alters tree rows old new
    → tables_in new.now.trees ≡ tables_in (with_tree old.now.trees tree rows)
tables_are tree rows old new it =
    let are = each_tree tree rows old.now.trees new.now.trees it.rows all_trees it.others in
    rw (
      are.1.0,
      are.1.1.0,
      are.1.1.1.0,
      are.1.1.1.1.0,
      are.1.1.1.1.1.0,
      are.1.1.1.1.1.1.0,
      are.1.1.1.1.1.1.1.0,
      are.1.1.1.1.1.1.1.1.0,
      are.1.1.1.1.1.1.1.1.1.0,
      are.1.1.1.1.1.1.1.1.1.1.0,
      are.1.1.1.1.1.1.1.1.1.1.1.0,
    )

still_shaped : (tree : ℕ) (trees : List ℕ) (old new : Trees) → IsShaped shape.Table (new tree)
    → KeepsOthers tree trees old new → AllByRecursion (λ t. IsShaped shape.Table (old t)) trees
    → AllByRecursion (λ t. IsShaped shape.Table (new t)) trees
still_shaped tree [] old new here others all = tt
still_shaped tree (t ∷ trees) old new here others all = (
  elim (eqb_tells t tree) [
    | inl same ↦ subst (λ n. IsShaped shape.Table (new n)) (sym same.1) here
    | inr other ↦ subst (IsShaped shape.Table) (sym (others.0 other.1)) all.0
  ],
  still_shaped tree trees old new here others.1 all.1,
)

pub still_hub : (tree : ℕ) (rows : List Row) (old new : State) → (0 == tree) ≡ false → IsHub old
    → Alters tree rows old new → IsHub new
still_hub tree rows old new other hub it = record {
  schema = it.schema;
  numbered = subst (λ (rs : List Row). map (λ row. column row 1) rs ≡ Int (pos 3)
      ∷ []) (sym (it.others.0 (λ same. absurd (grind (arith, nat_tests, other, same))))) hub.numbered;
  ordered = still_shaped tree all_trees old.now.trees new.now.trees (subst (IsShaped shape.Table) (sym it.rows)
      it.shaped) it.others hub.ordered;
  sound = it.sound;
}

-- if a statement wrote these rows
pub altered : (tree : ℕ) (rows : List Row) (old new : State) → old.in_transaction ≡ true → new.now.schema ≡ hub_schema
    → IsDatabase new.now → IsShaped shape.Table rows → new.now.trees tree ≡ rows
    → KeepsOthers tree all_trees old.now.trees new.now.trees
    → Shows old new new.now (if old.in_transaction then old.committed else new.now) old.in_transaction
    → Alters tree rows old new
altered tree rows old new begun schema sound shaped is others shown = record {
  schema = schema;
  sound = sound;
  shaped = shaped;
  rows = is;
  others = others;
  committed = (subst (λ b. Shows old new new.now (if b then old.committed else new.now) b) begun shown).committed_is;
  mode = shown.mode ∙ begun;
}

-- Shows that a row with new keys breaks no key.
use Rattle.std.proofs.Common.{◌≡◌, inl, inr, ℕ, ◌==◌, ℤ, Bool, true, false, not, ◌&&◌, ◌||◌, List, [], ◌∷◌, ◌++◌, refl}
use Rattle.std.proofs.Common.{sym, ap, ap₂, subst, cond, ◌∙◌, true≢false, arith}
use Rattle.std.specs.List.{AllByRecursion, list_all}
use Rattle.std.specs.Ordering.{is_ne}
use Rattle.std.proofs.lemmas.Bool.{and_parts, and_from, cases_Bool}
use Rattle.std.proofs.lemmas.Bool.Decides.{nat_tests}
use Rattle.std.proofs.lemmas.Cmp.{tied_itself}
use Rattle.sqlite_value.specs.declared.value.Value.TheVariants.{Int}
use Rattle.sqlite_value.specs.declared.keys.Order.{Order}
use Rattle.sqlite_value.specs.Order.{Row, value_cmp}
use Rattle.sqlite_value.proofs.OrderLemmas.{value_cmp_total}
use Rattle.sqlite_sql.specs.Ops.{binary}
use Rattle.sqlite_trees.specs.Tree.{Trees, rowid, with_tree}
use Rattle.sqlite_schema.specs.declared.schema.Schema.{Schema}
use Rattle.sqlite_schema.specs.declared.schema.Table.{Table}
use Rattle.sqlite_schema.specs.declared.schema.Index.{Index}
use Rattle.sqlite_schema.specs.declared.schema.Constraint.TheVariants.{Unique}
use Rattle.sqlite_schema.specs.Rules.{agree, clashes, differ, guards, Keeps}
use Rattle.sqlite_rules.proofs.KeyLemmas.{agree_back}
use Rattle.sql_rows.proofs.Answers.{is_truth}

never_differs : (n : ℤ) → differ (Int n) (Int n) ≡ false
unfolding binary
never_differs n = is_truth (is_ne (value_cmp (Int n) (Int n))) ∙ ap is_ne (tied_itself value_cmp_total (Int n))

and_never : (b : Bool) → (b && false) ≡ false
and_never true = refl
and_never false = refl

module _ (o : Order) (places : List ℕ) (new : Row) where
  -- no row has the key of the new one
  abbrev pub HasNewKey : List Row → Type 0
  HasNewKey rows = AllByRecursion (λ r. agree o places r places new ≡ false) rows

  agree_turned : (r : Row) → agree o places r places new ≡ false → agree o places new places r ≡ false
  agree_turned r none = elim (cases_Bool (agree o places new places r)) [
    | inl e ↦ absurd (true≢false (sym (agree_back o places places new r e) ∙ none))
    | inr e ↦ e
  ]

  clashes_more : (rows : List Row) (r : Row) → agree o places new places r ≡ false → clashes o places rows r ≡ false
      → clashes o places (rows ++ new ∷ []) r ≡ false
  clashes_more [] r none free = ap (λ b. (b && differ (rowid new) (rowid r)) || false) none
  clashes_more (x ∷ xs) r none free = elim (cases_Bool (agree o places x places r && differ (rowid x) (rowid r))) [
    | inl e ↦ absurd (true≢false (sym (ap (λ b. b || clashes o places xs r) e) ∙ free))
    | inr e ↦ ap (λ b. b || clashes o places (xs ++ new ∷ []) r) e ∙ clashes_more xs r none
        (sym (ap (λ b. b || clashes o places xs r) e) ∙ free)
  ]

  new_clashes : (n : ℤ) → rowid new ≡ Int n → (rows : List Row) → HasNewKey rows → clashes o places
      (rows ++ new ∷ []) new ≡ false
  new_clashes n is [] fresh =
      ap (λ b. (agree o places new places new && b) || false) (ap₂ differ is is ∙ never_differs n) ∙ ap
      (λ b. b || false) (and_never (agree o places new places new))
  new_clashes n is (x ∷ xs) fresh =
      ap (λ b. (b && differ (rowid x) (rowid new)) || clashes o places (xs ++ new ∷ []) new) fresh.0
      ∙ new_clashes n is xs fresh.1

module _ (db : Trees) (tree : ℕ) (new : Row) (n : ℤ) (is : rowid new ≡ Int n) where
  -- no row has any of the new row's keys of this table
  abbrev pub AreNew : List Row → List Index → Type 0
  AreNew rows indexes = AllByRecursion
      (λ i. (i.is_unique && (i.table == tree)) ≡ true → HasNewKey i.order i.columns new rows) indexes

  abbrev after : List Row
  after = db tree ++ new ∷ []

  abbrev PassesIndexes : List Index → Table → List Row → Row → Type 0
  PassesIndexes indexes table rows row =
      list_all (λ i. not (guards i table && clashes i.order i.columns rows row)) indexes ≡ true

  unguarded : (guard clash more : Bool) → (guard ≡ true → clash ≡ false → more ≡ false) → not (guard && clash) ≡ true
      → not (guard && more) ≡ true
  unguarded true true more f h = absurd cc
  unguarded true false more f h = ap not (f refl refl)
  unguarded false clash more f h = refl

  free_guard : (guard more : Bool) → (guard ≡ true → more ≡ false) → not (guard && more) ≡ true
  free_guard true more f = ap not (f refl)
  free_guard false more f = refl

  module _ (table : Table) (same : table.tree ≡ tree) where
    old_passes : (indexes : List Index) (row : Row) (rows : List Row) → AreNew (row ∷ rows) indexes
        → PassesIndexes indexes table (db tree) row → PassesIndexes indexes table after row
    old_passes [] row rows fresh h = refl
    old_passes (i ∷ more) row rows fresh h =
        let parts = and_parts (not (guards i table && clashes i.order i.columns (db tree) row)) _ h in
        and_from _ _ (unguarded (guards i table) (clashes i.order i.columns (db tree) row)
        (clashes i.order i.columns after row)
        (λ guard free. clashes_more i.order i.columns new (db tree) row
        (agree_turned i.order i.columns new row
        (fresh.0 (sym (ap (λ t. i.is_unique && (i.table == t)) same) ∙ guard)).0) free) parts.0)
        (old_passes more row rows fresh.1 parts.1)

    new_passes : (indexes : List Index) → AreNew (db tree) indexes → PassesIndexes indexes table after new
    new_passes [] fresh = refl
    new_passes (i ∷ more) fresh =
        and_from _ _ (free_guard (guards i table) (clashes i.order i.columns after new)
        (λ guard. new_clashes i.order i.columns new n is (db tree)
        (fresh.0 (sym (ap (λ t. i.is_unique && (i.table == t)) same) ∙ guard)))) (new_passes more fresh.1)

    fewer : (indexes : List Index) (row : Row) (rows : List Row) → AreNew (row ∷ rows) indexes → AreNew rows indexes
    fewer [] row rows fresh = tt
    fewer (i ∷ more) row rows fresh = (λ guard. (fresh.0 guard).1, fewer more row rows fresh.1)

    all_pass : (indexes : List Index) (rows : List Row) → AreNew rows indexes → AreNew (db tree) indexes
        → AllByRecursion (PassesIndexes indexes table (db tree)) rows → AllByRecursion (PassesIndexes indexes table after)
        (rows ++ new ∷ [])
    all_pass indexes [] fresh whole h = (new_passes indexes whole, tt)
    all_pass indexes (row ∷ rows) fresh whole h =
        (old_passes indexes row rows fresh h.0, all_pass indexes rows (fewer indexes row rows fresh) whole h.1)

  one_table : (indexes : List Index) (table : Table) (b : Bool) → (table.tree == tree) ≡ b → AreNew (db tree) indexes
      → AllByRecursion (PassesIndexes indexes table (db table.tree)) (db table.tree)
      → AllByRecursion (PassesIndexes indexes table (cond b after (db table.tree))) (cond b after (db table.tree))
  one_table indexes table true e fresh h =
      let same : table.tree ≡ tree = grind (arith, nat_tests, e) in
      all_pass table same indexes (db tree) fresh fresh
      (subst (λ t. AllByRecursion (PassesIndexes indexes table (db t)) (db t)) same h)
  one_table indexes table false e fresh h = h

  all_tables : (indexes : List Index) (tables : List Table) → AreNew (db tree) indexes → AllByRecursion
      (λ t. AllByRecursion (PassesIndexes indexes t (db t.tree)) (db t.tree)) tables
      → AllByRecursion (λ t. AllByRecursion (PassesIndexes indexes t (with_tree db tree after t.tree))
      (with_tree db tree after t.tree)) tables
  all_tables indexes [] fresh h = tt
  all_tables indexes (t ∷ ts) fresh h =
      (one_table indexes t (t.tree == tree) refl fresh h.0, all_tables indexes ts fresh h.1)

  -- so the new row breaks no key
  pub keeps_unique : (schema : Schema) → AreNew (db tree) schema.indexes → Keeps Unique schema db → Keeps Unique schema
      (with_tree db tree after)
  keeps_unique schema fresh h = all_tables schema.indexes schema.tables fresh h

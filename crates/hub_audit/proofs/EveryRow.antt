-- What a query of one table reads.
use Rattle.std.proofs.Common.{◌≡◌, ℕ, Bool, true, Result, List, [], ◌∷◌, map, filter, refl, sym, ap, subst, ◌∙◌}
use Rattle.std.specs.List.{AllByRecursion, list_all}
use Rattle.std.specs.List.Sorted.{IsPermutation}
use Rattle.std.specs.declared.cmp.Ordering.{Ordering}
use Rattle.std.specs.Cmp.{IsTotalOrder}
use Rattle.std.proofs.lemmas.List.Sorted.{IsPermutation-sym}
use Rattle.sqlite_trees.specs.Tree.{Trees}
use Rattle.sqlite_value.specs.Order.{Row}
use Rattle.sqlite_value.specs.declared.keys.Key.{Key as SortKey}
use Rattle.sqlite_sql.specs.Term.{Term, eval_all}
use Rattle.sqlite_sql.specs.Query.{IsAnswer, sort_cmp}
use Rattle.sqlite_sql.specs.Program.{overlay}
use Rattle.sqlite.specs.State.{State}
use Rattle.hub_parties.specs.KeyOrder.{Rises}
use Rattle.hub_rows.specs.Asks.{Asks}
use Rattle.hub_rows.proofs.Counting.{all_such}
use Rattle.hub_rows.proofs.Finding.{all_of, no_limit, passes, FindsRows, finds}
use Rattle.hub_rows.proofs.Listing.{rows_are, rows_moved, all_then}
use Rattle.hub_rows.proofs.Looking.{Selects, looks_for}
use Rattle.hub_rows.proofs.Sorting.{permuted_has}
use Rattle.hub_schema.specs.Rows.{in_key_order, tables_in}
use Rattle.hub_schema.specs.State.{IsHub, LooksFor}
use Rattle.hub_sound.specs.Finding.{RowKey}
use Rattle.hub_store.specs.declared.fault.StoreFault.{StoreFault}
use Rattle.hub_tables.proofs.Members.{has_map}
use Rattle.hub_tables.specs.Tables.{Tables}
use Rattle.hub_pieces.specs.AllRows.{IsRead}
use Rattle.hub_pieces.specs.declared.all_rows.Read.{Read as Found}
use Rattle.hub_pieces.specs.declared.all_rows.Read.TheVariants.{Rows, Unclean}
use Rattle.hub_audit.specs.Every.{AreRead}
use Rattle.hub_audit.specs.Key.{key_from}
use Rattle.hub_audit.specs.declared.key.Part.{Part}

pub all_pass : {X : Type 0} (xs : List X) → filter (λ x. true) xs ≡ xs
all_pass [] = refl
all_pass (x ∷ xs) = ap (λ more. x ∷ more) (all_pass xs)

-- A kind of row: its order, what a stored row says of it, and what is shown; and which rows are selected.
module _ {X : Type 0} {cmp : X → X → Ordering} (total : IsTotalOrder cmp) (f shown : Row → X) (columns : List Term)
    (order : List (Term × SortKey)) (tests : List Term) (params : Row)
    (says : (row : Row) → shown (eval_all columns (params ∷ row ∷ [])) ≡ f row)
    (clean : X → Bool) (key_of : X → RowKey) (parts : List Part)
    (keys : (row : Row) → key_of (shown row) ≡ key_from 0 parts row)
    (P : Row → Type 0) (N : X → Type 0) (low : (x : X) → clean x ≡ true → N x)
    (ranked : (x y : Row) → P x × N (f x) → P y × N (f y)
    → sort_cmp order (params ∷ x ∷ []) (params ∷ y ∷ []) ≡ cmp (f x) (f y))
    (p : X → Bool) (passed : (row : Row) → P row → passes tests params row ≡ p (f row)) where
  module _ (stored rows : List Row) (found : FindsRows stored tests columns order no_limit params rows) (cells : AllByRecursion P stored)
      (rises : Rises cmp (in_key_order cmp (map f stored))) where
    abbrev chosen : List X
    chosen = filter p (in_key_order cmp (map f stored))

    moved : IsPermutation chosen (map shown rows)
    moved = rows_moved total f shown columns order stored tests params rows says found p
        (all_such P (λ row. passes tests params row ≡ p (f row)) passed stored cells)

    read_is : (read : Found X) → AreRead shown clean parts rows read → IsRead key_of clean chosen read
    read_is (Rows xs) h =
        let are : xs ≡ chosen =
        h.0 ∙ rows_are total f shown columns order stored tests params rows says found P N ranked cells p passed rises
        (all_then clean N low (map shown rows) (subst (λ ys. list_all clean ys ≡ true) h.0 h.1)) in
        (are, subst (λ ys. list_all clean ys ≡ true) are h.1)
    read_is (Unclean key) h = (
      shown h.0,
      permuted_has (map shown rows) chosen (IsPermutation-sym chosen (map shown rows) moved) (shown h.0)
          (has_map shown rows h.0 h.1),
      h.2,
      keys h.0 ∙ sym h.3,
    )

  -- the text of a connection that selects them
  module _ (tree : ℕ) {text : List ℕ} {names : List (List ℕ)} (selects : Selects text (all_of tree tests columns order) names)
      (plain : (db : Trees) → overlay db [] tree ≡ db tree) (table : Tables → List X)
      (is_table : (db : Trees) → filter p (in_key_order cmp (map f (db tree))) ≡ table (tables_in db))
      (cells : (s : State) → IsHub s → AllByRecursion P (s.now.trees tree))
      (rises : (s : State) → IsHub s → Rises cmp (in_key_order cmp (map f (s.now.trees tree)))) where
    answered : (s : State) → IsHub s → (rows : List Row)
        → IsAnswer (all_of tree tests columns order) (overlay s.now.trees []) params rows
        → (read : Found X) → AreRead shown clean parts rows read → IsRead key_of clean (table (tables_in s.now.trees)) read
    answered s hub rows answer read are =
        subst (λ xs. IsRead key_of clean xs read) (is_table s.now.trees)
        (read_is (s.now.trees tree) rows
        (finds s.now.trees tree tests columns order no_limit params rows (plain s.now.trees) answer)
        (cells s hub) (rises s hub) read are)

    pub every_row : (old new : State) (result : Result (Found X) StoreFault)
        → Asks (AreRead shown clean parts) (λ rows. ⊥) text params old new result
        → LooksFor (λ t. IsRead key_of clean (table t)) (λ t. ⊥) old new result
    every_row old new result =
        looks_for selects (λ t. IsRead key_of clean (table t)) (λ t. ⊥) _ _ params old new
        (λ hub rows answer read are. answered old hub rows answer read are)
        (λ hub rows answer no. absurd no) result

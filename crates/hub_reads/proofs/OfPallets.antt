-- Proves which pallets a query finds.
use Rattle.std.proofs.Common.{◌≡◌, ℕ, ◌==◌, Bool, not, Option, length, slice_get, true, false, ◌&&◌, Result, List, []}
use Rattle.std.proofs.Common.{◌∷◌, map, filter, refl, sym, ap, ap₂, subst, ◌∙◌}
use Rattle.std.specs.List.{AllByRecursion, list_all}
use Rattle.sqlite_value.specs.declared.value.Value.TheVariants.{Blob}
use Rattle.sqlite_value.specs.Order.{Row, column}
use Rattle.sqlite_sql.specs.Term.{Term, col}
use Rattle.sqlite_sql.specs.Query.{IsAnswer, sort_cmp}
use Rattle.sqlite_value.specs.declared.keys.Key.{Key}
use Rattle.sqlite_sql.specs.Program.{overlay}
use Rattle.sqlite.specs.State.{State}
use Rattle.sql_rows.specs.Cells.{AreOf}
use Rattle.hub_store.specs.Clean.{are_clean, clean_pallet}
use Rattle.hub_store.specs.declared.fault.StoreFault.{StoreFault}
use Rattle.hub_tables.specs.Rows.{same, pallet_cmp}
use Rattle.hub_tables.specs.State.{pallet_of}
use Rattle.hub_tables.specs.Tables.{view, has_pallet}
use Rattle.hub_tables.specs.declared.rows.PalletRow.{PalletRow}
use Rattle.hub_tables.proofs.KindOrders.{pallet_total}
use Rattle.hub_schema.specs.Rows.{pallet_in, tables_in}
use Rattle.hub_schema.specs.State.{IsHub, LooksUp}
use Rattle.hub_schema.proofs.Single.{pallet_kinds, pallet_cells, hub_rises}
use Rattle.hub_rows.specs.Asks.{Asks}
use Rattle.hub_rows.specs.Shown.{shown_pallet}
use Rattle.hub_rows.proofs.Counting.{cell_bytes, all_such}
use Rattle.hub_rows.proofs.Finding.{all_of, no_limit, passes, FindsRows, finds}
use Rattle.hub_rows.proofs.Listing.{shown_say, sources_have, sources_are, sources_sorted, sources_spoil}
use Rattle.hub_rows.proofs.Looking.{looks}
use Rattle.hub_rows.proofs.Ranking.{then_none, rank_bytes}
use Rattle.hub_reads.proofs.Texts.{given_at, rising, pallet_columns, used_text, used_selects, pallet_text}
use Rattle.hub_reads.proofs.Texts.{pallet_selects, all_pallets_text, all_pallets_select}
use Rattle.hub_rows.proofs.Unclean.{pallets_unclean}
use Rattle.sql_rows.proofs.Answers.{and_true}
use Rattle.std.proofs.lemmas.Bool.{and_parts}
use Rattle.std.specs.Ordering.{is_eq}
use Rattle.std.specs.List.Sorted.{IsPermutation}
use Rattle.std.proofs.lemmas.Map.Text.{is_eq-slice_cmp}
use Rattle.hub_tables.proofs.Lists.{same_is, same_if}
use Rattle.hub_schema.proofs.InKeyOrder.{listed_any}
use Rattle.hub_rows.proofs.Counting.{any_shown, some_found}
use Rattle.hub_rows.proofs.Listing.{sources_moved}
use Rattle.hub_rows.proofs.Single.{found_first, filter_turned}

ranked : (params x y : Row) → AreOf pallet_kinds 0 x → AreOf pallet_kinds 0 y
    → sort_cmp (rising 1 ∷ []) (params ∷ x ∷ []) (params ∷ y ∷ []) ≡ pallet_cmp (pallet_in x) (pallet_in y)
ranked params x y a b = then_none _ ∙ rank_bytes (column x 1) (column y 1) a.0 b.0

-- There is at most one pallet with an SSCC.
alike : (sscc : List ℕ) (x y : PalletRow) → same x.sscc sscc ≡ true → same y.sscc sscc ≡ true → is_eq (pallet_cmp x y) ≡ true
alike sscc x y a b = is_eq-slice_cmp x.sscc y.sscc ∙ same_if x.sscc y.sscc (same_is x.sscc sscc a ∙ sym (same_is y.sscc sscc b))

module _ (s : State) (hub : IsHub s) where
  cells : AllByRecursion (AreOf pallet_kinds 0) (s.now.trees 7)
  cells = pallet_cells s.now hub.schema hub.sound hub.ordered

  module _ (tests : List Term) (order : List (Term × Key)) (params : Row) (rows : List Row)
      (answer : IsAnswer (all_of 7 tests pallet_columns order) (overlay s.now.trees []) params rows) where
    found : FindsRows (s.now.trees 7) tests pallet_columns order no_limit params rows
    found = finds s.now.trees 7 tests pallet_columns order no_limit params rows refl answer

    told : map shown_pallet rows ≡ map pallet_in found.sources
    told = ap (map shown_pallet) found.is ∙ shown_say pallet_in shown_pallet pallet_columns params found.sources (λ row. refl)

    pub pallets_moved : (p : PalletRow → Bool) → ((row : Row) → AreOf pallet_kinds 0 row → passes tests params row ≡ p (pallet_in row))
        → IsPermutation (filter p (tables_in s.now.trees).pallets) (map shown_pallet rows)
    pallets_moved p passed =
        subst (IsPermutation (filter p (tables_in s.now.trees).pallets)) (sym told)
        (sources_moved pallet_total pallet_in (s.now.trees 7) tests params found.sources found.same p
        (all_such _ _ passed (s.now.trees 7) cells))

    pub pallets_spoil : list_all clean_pallet (map shown_pallet rows) ≡ false → are_clean (tables_in s.now.trees) ≡ false
    pallets_spoil spoilt =
        let some = sources_spoil pallet_total pallet_in (s.now.trees 7) tests params found.sources found.same clean_pallet (sym
        (ap (list_all clean_pallet) told) ∙ spoilt) in
        pallets_unclean (tables_in s.now.trees) some

  module _ (tests : List Term) (params : Row) (rows : List Row)
      (answer : IsAnswer (all_of 7 tests pallet_columns (rising 1 ∷ [])) (overlay s.now.trees []) params rows) where
    pub pallets_are : (p : PalletRow → Bool) → ((row : Row) → AreOf pallet_kinds 0 row → passes tests params row ≡ p (pallet_in row))
        → map shown_pallet rows ≡ filter p (tables_in s.now.trees).pallets
    pallets_are p passed =
        let it = found tests (rising 1 ∷ []) params rows answer in
        let known = sources_have pallet_total pallet_in (s.now.trees 7) tests params it.sources it.same (AreOf pallet_kinds 0) cells in
        told tests (rising 1 ∷ []) params rows answer
        ∙ sources_are pallet_total pallet_in (s.now.trees 7) tests params it.sources it.same p (all_such _ _ passed (s.now.trees 7) cells)
        (sources_sorted pallet_total pallet_in (s.now.trees 7) tests params it.sources it.same (rising 1 ∷ []) (AreOf pallet_kinds 0)
        (ranked params) known it.sorted)
        (hub_rises s hub).pallets

  used_right : (sscc : List ℕ) (rows : List Row) → IsAnswer (all_of 7 (given_at 1 0 ∷ []) (col 1 2 ∷ []) []) (overlay s.now.trees [])
      (Blob sscc ∷ []) rows
      → not (length rows == 0) ≡ has_pallet (tables_in s.now.trees) sscc
  used_right sscc rows answer =
      let test : PalletRow → Bool = λ pallet. same pallet.sscc sscc in
      let it = finds s.now.trees 7 (given_at 1 0 ∷ []) (col 1 2 ∷ []) [] no_limit (Blob sscc ∷ []) rows refl answer in
      some_found (s.now.trees 7) (given_at 1 0 ∷ []) (col 1 2 ∷ []) [] (Blob sscc ∷ []) rows it
      ∙ any_shown pallet_in test (passes (given_at 1 0 ∷ []) (Blob sscc ∷ [])) (s.now.trees 7)
      (all_such _ _ (λ row it. and_true _ ∙ cell_bytes (column row 1) sscc it.0) (s.now.trees 7) cells)
      ∙ sym (listed_any pallet_cmp test (map pallet_in (s.now.trees 7)))

pub used_look : (old new : State) (sscc : List ℕ) (result : Result Bool StoreFault)
    → Asks (λ rows answer. answer ≡ not (length rows == 0)) (λ _. ⊥) used_text (Blob sscc ∷ []) old new result
    → LooksUp (λ t. has_pallet t sscc) old new result
used_look old new sscc =
    looks used_selects _ _ _ _ old new (λ hub rows answer x is. is ∙ used_right old hub sscc rows answer) (λ hub rows answer no. absurd no)

pub pallet_look : (old new : State) (supplier sscc : List ℕ) (result : Result (Option PalletRow) StoreFault)
    → Asks (λ rows first. first ≡ slice_get (map shown_pallet rows) 0)
    (λ rows. list_all clean_pallet (map shown_pallet rows) ≡ false) pallet_text (Blob sscc ∷ Blob supplier ∷ []) old new result
    → LooksUp (λ t. pallet_of (view supplier t) sscc) old new result
pallet_look old new supplier sscc =
    let params = Blob sscc ∷ Blob supplier ∷ [] in
    let whose : PalletRow → Bool = λ pallet. same pallet.supplier supplier in
    let at : PalletRow → Bool = λ pallet. same pallet.sscc sscc in
    let passed : (row : Row) → AreOf pallet_kinds 0 row → passes
    (given_at 1 0 ∷ given_at 2 1 ∷ []) params row ≡ (at (pallet_in row) && whose (pallet_in row)) =
    λ row it. ap₂ (λ v w. v && w) (cell_bytes (column row 1) sscc it.0) (and_true _ ∙ cell_bytes (column row 2) supplier it.1.0) in
    looks pallet_selects _ _ _ params old new
    (λ hub rows answer first is.
    let all = (tables_in old.now.trees).pallets in
    is ∙ found_first pallet_cmp whose at all (map shown_pallet rows) (hub_rises old hub).pallets
    (λ x y a b. alike sscc x y (and_parts (whose x) (at x) a).1 (and_parts (whose y) (at y) b).1)
    (subst (λ ps. IsPermutation ps (map shown_pallet rows)) (filter_turned at whose all)
    (pallets_moved old hub _ [] params rows answer (λ pallet. at pallet && whose pallet) passed)))
    (λ hub rows answer spoilt. pallets_spoil old hub _ [] params rows answer spoilt)

pub all_pallets_look : (old new : State) (supplier : List ℕ) (result : Result (List PalletRow) StoreFault)
    → Asks (λ rows items. items ≡ map shown_pallet rows) (λ rows. list_all clean_pallet (map shown_pallet rows) ≡ false) all_pallets_text
    (Blob supplier ∷ []) old new result
    → LooksUp (λ t. (view supplier t).pallets) old new result
all_pallets_look old new supplier =
    let params = Blob supplier ∷ [] in
    let passed : (row : Row) → AreOf pallet_kinds 0 row → passes (given_at 2 0 ∷ []) params row ≡ same (pallet_in row).supplier supplier =
    λ row it. and_true _ ∙ cell_bytes (column row 2) supplier it.1.0 in
    looks all_pallets_select _ _ _ params old new
    (λ hub rows answer items is. is ∙ pallets_are old hub _ params rows answer (λ pallet. same pallet.supplier supplier) passed)
    (λ hub rows answer spoilt. pallets_spoil old hub _ (rising 1 ∷ []) params rows answer spoilt)

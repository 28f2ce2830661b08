-- Proves what a query finds among remembered messages.
use Rattle.std.proofs.Common.{◌≡◌, ℕ, ◌==◌, ◌<◌, ◌^◌, Bool, true, false, ◌&&◌, Result, Option, Some, None, option_map, List, []}
use Rattle.std.proofs.Common.{◌∷◌, pos, length, map, slice_get, refl, sym, ap, ap₂, subst, ◌∙◌, arith}
use Rattle.std.specs.List.{AllByRecursion, list_all}
use Rattle.std.specs.List.Sorted.{IsPermutation}
use Rattle.std.specs.Ordering.{is_eq}
use Rattle.std.proofs.lemmas.Bool.{and_parts}
use Rattle.sqlite_value.specs.declared.value.Value.{Value}
use Rattle.sqlite_value.specs.declared.value.Value.TheVariants.{Blob, Int}
use Rattle.sqlite_value.specs.Order.{Row, column}
use Rattle.sqlite_schema.specs.declared.schema.Kind.TheVariants as kind
use Rattle.sqlite_sql.specs.declared.ops.UnaryOp.TheVariants.{Length}
use Rattle.sqlite_sql.specs.Ops.{unary}
use Rattle.sqlite_sql.specs.Term.{Term, col, op1, eval_all}
use Rattle.sqlite_sql.specs.Query.{IsAnswer}
use Rattle.sqlite_sql.specs.Program.{overlay}
use Rattle.sqlite.specs.State.{State}
use Rattle.sql_rows.specs.Cells.{AreOf, IsOf}
use Rattle.sql_rows.proofs.Answers.{and_true, map_twice}
use Rattle.hub_store.specs.Clean.{are_bytes, clean_remembered, is_side, is_message}
use Rattle.edi_envelope.specs.Limits.{is_reference}
use Rattle.gs1_ids.specs.Gln.{is_gln}
use Rattle.hub_store.specs.declared.fault.StoreFault.{StoreFault}
use Rattle.hub_tables.specs.Cases.{side_letter}
use Rattle.hub_tables.specs.declared.cases.Side.{Side}
use Rattle.hub_tables.specs.declared.cases.Side.TheVariants as sides
use Rattle.hub_tables.specs.Rows.{same, remembered_cmp}
use Rattle.hub_tables.specs.State.{remembered_content, remembered_of}
use Rattle.hub_tables.specs.Tables.{view}
use Rattle.hub_tables.specs.declared.rows.RememberedRow.{RememberedRow}
use Rattle.hub_tables.proofs.KindOrders.{remembered_total}
use Rattle.hub_schema.specs.Cells.{bytes_in}
use Rattle.hub_schema.specs.Rows.{remembered_in, tables_in}
use Rattle.hub_schema.specs.State.{IsHub, LooksUp}
use Rattle.hub_schema.proofs.Single.{remembered_kinds, remembered_cells, hub_rises}
use Rattle.hub_rows.specs.Asks.{Asks}
use Rattle.hub_rows.specs.Shown.{shown_bytes}
use Rattle.hub_rows.proofs.Counting.{cell_bytes, cell_number, all_such}
use Rattle.hub_rows.proofs.Finding.{all_of, no_limit, passes, FindsRows, finds}
use Rattle.hub_rows.proofs.Listing.{shown_say, sources_have, sources_moved, sources_spoil, filter_both}
use Rattle.hub_rows.proofs.Looking.{looks}
use Rattle.hub_rows.proofs.Single.{found_first, both_tied, bytes_tied, numbers_tied, shown_first, all_through, spoils_more}
use Rattle.hub_reads.specs.Length.{is_number}
use Rattle.hub_reads.proofs.Texts.{remembered_tests, remembered_text, remembered_selects, length_text, length_selects}
use Rattle.hub_rows.proofs.Unclean.{remembered_unclean}

letter_low : (side : Side) → side_letter side < 2 ^ 64
letter_low sides.Retailer = omega arith
letter_low sides.Supplier = omega arith
letter_low sides.Cancellation = omega arith

module _ (supplier : List ℕ) (side : ℕ) (control message : List ℕ) where
  abbrev whose : RememberedRow → Bool
  whose x = same x.supplier supplier

  abbrev at : RememberedRow → Bool
  at x = (x.side == side) && (same x.control control && same x.message message)

  alike : (x y : RememberedRow) → (whose x && at x) ≡ true → (whose y && at y) ≡ true → is_eq (remembered_cmp x y) ≡ true
  alike x y a b =
      let a0 = and_parts (whose x) (at x) a in
      let b0 = and_parts (whose y) (at y) b in
      let a1 = and_parts (x.side == side) (same x.control control && same x.message message) a0.1 in
      let b1 = and_parts (y.side == side) (same y.control control && same y.message message) b0.1 in
      let a2 = and_parts (same x.control control) (same x.message message) a1.1 in
      let b2 = and_parts (same y.control control) (same y.message message) b1.1 in
      both_tied _ _ (bytes_tied x.supplier y.supplier supplier a0.0 b0.0)
      (both_tied _ _ (numbers_tied x.side y.side side a1.0 b1.0)
      (both_tied _ _ (bytes_tied x.control y.control control a2.0 b2.0) (bytes_tied x.message y.message message a2.1 b2.1)))

  passed : side < 2 ^ 64 → (row : Row) → AreOf remembered_kinds 0 row
      → passes remembered_tests (Blob supplier ∷ Int (pos side) ∷ Blob control ∷ Blob message ∷ []) row
      ≡ (whose (remembered_in row) && at (remembered_in row))
  passed low row it =
      ap₂ (λ v w. v && w) (cell_bytes (column row 1) supplier it.0)
      (ap₂ (λ v w. v && w) (cell_number (column row 2) side low it.1.0)
      (ap₂ (λ v w. v && w) (cell_bytes (column row 3) control it.1.1.0) (and_true _ ∙ cell_bytes (column row 4) message it.1.1.1.0)))

content_clean : (x : RememberedRow) → clean_remembered x ≡ true → are_bytes x.content ≡ true
content_clean x h =
    let a = and_parts (is_gln x.supplier) (is_side x.side && (is_reference x.control
    && (is_message x.side x.message && are_bytes x.content))) h in
    let b = and_parts (is_side x.side) (is_reference x.control && (is_message x.side x.message && are_bytes x.content)) a.1 in
    let c = and_parts (is_reference x.control) (is_message x.side x.message && are_bytes x.content) b.1 in
    (and_parts (is_message x.side x.message) (are_bytes x.content) c.1).1

-- the first row that is found is the one that is remembered
module _ (old : State) (hub : IsHub old) (supplier : List ℕ) (side : Side) (control message : List ℕ) (shown : List Term) (rows : List Row)
    (it : FindsRows (old.now.trees 14) remembered_tests shown [] no_limit
    (Blob supplier ∷ Int (pos (side_letter side)) ∷ Blob control ∷ Blob message ∷ []) rows) where
  first_is : slice_get (map remembered_in it.sources) 0
      ≡ remembered_of (view supplier (tables_in old.now.trees)) side control message
  first_is =
      let key = side_letter side in
      let params = Blob supplier ∷ Int (pos key) ∷ Blob control ∷ Blob message ∷ [] in
      let stored = old.now.trees 14 in
      let all = (tables_in old.now.trees).remembered in
      found_first remembered_cmp (whose supplier key control message) (at supplier key control message) all
      (map remembered_in it.sources) (hub_rises old hub).remembered (alike supplier key control message)
      (subst (λ xs. IsPermutation xs (map remembered_in it.sources))
      (sym (filter_both (whose supplier key control message) (at supplier key control message) all))
      (sources_moved remembered_total remembered_in stored remembered_tests params it.sources it.same
      (λ x. whose supplier key control message x && at supplier key control message x)
      (all_such _ _ (passed supplier key control message (letter_low side)) stored
      (remembered_cells old.now hub.schema hub.sound hub.ordered))))

pub remembered_look : (old new : State) (supplier : List ℕ) (side : Side) (control message : List ℕ)
    (result : Result (Option (List ℕ)) StoreFault)
    → Asks (λ rows first. first ≡ slice_get (map shown_bytes rows) 0)
    (λ rows. list_all are_bytes (map shown_bytes rows) ≡ false) remembered_text
    (Blob supplier ∷ Int (pos (side_letter side)) ∷ Blob control ∷ Blob message ∷ []) old new result
    → LooksUp (λ t. remembered_content (view supplier t) side control message) old new result
remembered_look old new supplier side control message =
    let params = Blob supplier ∷ Int (pos (side_letter side)) ∷ Blob control ∷ Blob message ∷ [] in
    let db = old.now.trees in
    let content : RememberedRow → List ℕ = λ row. row.content in
    let found : (rows : List Row) → IsAnswer (all_of 14 remembered_tests (col 1 5 ∷ []) []) (overlay db []) params rows
    → FindsRows (db 14) remembered_tests (col 1 5 ∷ []) [] no_limit params rows =
    λ rows answer. finds db 14 remembered_tests (col 1 5 ∷ []) [] no_limit params rows refl answer in
    let told : (rows : List Row) (it : FindsRows (db 14) remembered_tests (col 1 5 ∷ []) [] no_limit params rows)
    → map shown_bytes rows ≡ map content (map remembered_in it.sources) =
    λ rows it. ap (map shown_bytes) it.is ∙ shown_say (λ row. (remembered_in row).content) shown_bytes (col 1 5 ∷ []) params it.sources
    (λ row. refl) ∙ sym (map_twice content remembered_in it.sources) in
    looks remembered_selects _ _ _ params old new
    (λ hub rows answer first is.
    let it = found rows answer in
    is ∙ ap (λ xs. slice_get xs 0) (told rows it) ∙ shown_first content (map remembered_in it.sources)
    ∙ ap (option_map content) (first_is old hub supplier side control message (col 1 5 ∷ []) rows it))
    (λ hub rows answer spoilt.
    let it = found rows answer in
    let some = sym (all_through are_bytes content (map remembered_in it.sources)) ∙ sym (ap (list_all are_bytes) (told rows it)) ∙ spoilt in
    remembered_unclean (tables_in db) (spoils_more (λ x. are_bytes x.content) clean_remembered content_clean (tables_in db).remembered
    (sources_spoil remembered_total remembered_in (db 14) remembered_tests params it.sources it.same (λ x. are_bytes x.content) some)))

-- The length alone.

length_cell : (n : ℕ) (v : Value) → IsOf kind.Blob v → is_number n (unary Length v) ≡ (length (bytes_in v) == n)
unfolding unary
length_cell n v it = ap (λ w. is_number n (unary Length w)) it.1 ∙ ap (λ w. length (bytes_in w) == n) (sym it.1)

map_each : {X Y : Type 0} (f g : X → Y) (xs : List X) → AllByRecursion (λ x. f x ≡ g x) xs → map f xs ≡ map g xs
map_each f g [] all = refl
map_each f g (x ∷ xs) all = ap₂ (λ y ys. y ∷ ys) all.0 (map_each f g xs all.1)

option_twice : {X Y Z : Type 0} (g : Y → Z) (f : X → Y) (found : Option X)
    → option_map (λ x. g (f x)) found ≡ option_map g (option_map f found)
option_twice g f None = refl
option_twice g f (Some x) = refl

pub length_look : (old new : State) (supplier : List ℕ) (side : Side) (control message text : List ℕ)
    (result : Result (Option Bool) StoreFault)
    → Asks (λ rows is. is ≡ option_map (λ row. is_number (length text) (column row 0)) (slice_get rows 0)) (λ _. ⊥) length_text
    (Blob supplier ∷ Int (pos (side_letter side)) ∷ Blob control ∷ Blob message ∷ []) old new result
    → LooksUp (λ t. option_map (λ there. length there == length text) (remembered_content (view supplier t) side control message))
    old new result
length_look old new supplier side control message text =
    let params = Blob supplier ∷ Int (pos (side_letter side)) ∷ Blob control ∷ Blob message ∷ [] in
    let db = old.now.trees in
    let n = length text in
    let columns : List Term = op1 Length (col 1 5) ∷ [] in
    let shows : Row → Bool = λ row. is_number n (column row 0) in
    let as_long : RememberedRow → Bool = λ row. length row.content == n in
    looks length_selects _ _ _ params old new
    (λ hub rows answer x is.
    let it = finds db 14 remembered_tests columns [] no_limit params rows refl answer in
    let cells = sources_have remembered_total remembered_in (db 14) remembered_tests params it.sources it.same (AreOf remembered_kinds 0)
    (remembered_cells old.now hub.schema hub.sound hub.ordered) in
    let told : map shows rows ≡ map as_long (map remembered_in it.sources) =
    ap (map shows) it.is ∙ map_twice shows (λ row. eval_all columns (params ∷ row ∷ [])) it.sources
    ∙ map_each _ _ it.sources (all_such (AreOf remembered_kinds 0)
    (λ row. shows (eval_all columns (params ∷ row ∷ [])) ≡ as_long (remembered_in row))
    (λ row cell. length_cell n (column row 5) cell.1.1.1.1.0) it.sources cells)
    ∙ sym (map_twice as_long remembered_in it.sources) in
    is ∙ sym (shown_first shows rows) ∙ ap (λ xs. slice_get xs 0) told ∙ shown_first as_long (map remembered_in it.sources)
    ∙ ap (option_map as_long) (first_is old hub supplier side control message columns rows it)
    ∙ option_twice (λ there. length there == n) (λ (row : RememberedRow). row.content) _)
    (λ hub rows answer no. absurd no)

-- Proves which order lines a query finds.
use Rattle.std.proofs.Common.{◌≡◌, ℕ, ◌+◌, ◌==◌, ◌<◌, ◌^◌, nat_le, Bool, true, false, ◌&&◌, Result, IfOk, List, [], ◌∷◌, pos}
use Rattle.std.proofs.Common.{map, filter, arith, refl, sym, ap, ap₂, subst, ◌∙◌}
use Rattle.std.specs.List.{AllByRecursion, list_all}
use Rattle.std.proofs.lemmas.Bool.{and_parts}
use Rattle.gs1_ids.specs.Digits.{is_key}
use Rattle.gs1_ids.specs.Gln.{is_gln}
use Rattle.std.specs.Ordering.{ordering_then}
use Rattle.sqlite_value.specs.declared.value.Value.TheVariants.{Blob, Int}
use Rattle.sqlite_value.specs.Order.{Row, column}
use Rattle.sqlite_sql.specs.Term.{Term}
use Rattle.sqlite_sql.specs.Query.{IsAnswer, sort_cmp}
use Rattle.sqlite_sql.specs.Program.{overlay}
use Rattle.sqlite.specs.State.{State}
use Rattle.sql_rows.specs.Cells.{AreOf}
use Rattle.hub_store.specs.Clean.{are_clean, clean_line, is_answer, is_line, is_number, is_quantity}
use Rattle.hub_store.specs.Lines.{lines_numbered}
use Rattle.hub_store.specs.declared.fault.StoreFault.{StoreFault}
use Rattle.hub_tables.specs.Rows.{same, line_cmp}
use Rattle.hub_tables.specs.State.{lines_of}
use Rattle.hub_tables.specs.Tables.{view}
use Rattle.hub_tables.specs.declared.rows.LineRow.{LineRow}
use Rattle.hub_tables.proofs.KindOrders.{line_total}
use Rattle.hub_schema.specs.Rows.{line_in, tables_in}
use Rattle.hub_schema.specs.State.{IsHub, LooksUp}
use Rattle.hub_schema.proofs.Single.{line_kinds, line_cells, hub_rises}
use Rattle.hub_rows.specs.Asks.{Asks}
use Rattle.hub_rows.proofs.Asking.{reads_more}
use Rattle.hub_rows.specs.Shown.{shown_line}
use Rattle.hub_rows.proofs.Counting.{cell_bytes, cell_number, all_such}
use Rattle.hub_rows.proofs.Finding.{all_of, no_limit, passes, FindsRows, finds}
use Rattle.hub_rows.proofs.Listing.{shown_say, sources_have, sources_are, sources_sorted, sources_spoil, all_of_map}
use Rattle.hub_rows.proofs.Listing.{all_both, all_then, filter_both}
use Rattle.hub_rows.proofs.Looking.{looks}
use Rattle.hub_rows.proofs.Ranking.{then_none, rank_bytes, rank_numbers, low_number}
use Rattle.hub_reads.proofs.Texts.{given_at, line_columns, line_order, lines_text, lines_select, all_lines_text, all_lines_select}
use Rattle.hub_reads.proofs.Texts.{numbered_tests, numbered_text, numbered_select}
use Rattle.hub_rows.proofs.Unclean.{lines_unclean}
use Rattle.sql_rows.proofs.Answers.{and_true}

-- a row whose cells have the types of its columns, with a line number
abbrev IsNumberedLine : Row → Type 0
IsNumberedLine row = AreOf line_kinds 0 row × ((line_in row).line < 2 ^ 64)

ranked : (params x y : Row) → IsNumberedLine x → IsNumberedLine y
    → sort_cmp line_order (params ∷ x ∷ []) (params ∷ y ∷ []) ≡ line_cmp (line_in x)
    (line_in y)
ranked params x y a b =
    ap₂ ordering_then (rank_bytes (column x 1) (column y 1) a.0.0 b.0.0)
    (ap₂ ordering_then (rank_bytes (column x 2) (column y 2) a.0.1.0 b.0.1.0)
    (then_none _ ∙ rank_numbers (column x 3) (column y 3) a.0.1.1.0 b.0.1.1.0 a.1 b.1))

-- the number of a line that has the form of its kind fits a u64
line_numbered : (line : LineRow) → clean_line line ≡ true → line.line < 2 ^ 64
line_numbered line h =
    let more = is_key 14 line.gtin && (is_quantity line.ordered
    && (nat_le (line.open_qty + line.refused + line.cancelled) line.ordered && is_answer line.answer)) in
    let a = and_parts (is_gln line.supplier) (is_number line.number && (is_line line.line && more)) h in
    let b = and_parts (is_number line.number) (is_line line.line && more) a.1 in
    low_number line.line (and_parts (is_line line.line) more b.1).0

module _ (s : State) (hub : IsHub s) (tests : List Term) (params : Row) (rows : List Row)
    (answer : IsAnswer (all_of 3 tests line_columns line_order) (overlay s.now.trees []) params rows) where
  cells : AllByRecursion (AreOf line_kinds 0) (s.now.trees 3)
  cells = line_cells s.now hub.schema hub.sound hub.ordered

  found : FindsRows (s.now.trees 3) tests line_columns line_order no_limit params rows
  found = finds s.now.trees 3 tests line_columns line_order no_limit params rows refl answer

  told : map shown_line rows ≡ map line_in found.sources
  told = ap (map shown_line) found.is ∙ shown_say line_in shown_line line_columns params found.sources (λ row. refl)

  pub lines_are : (p : LineRow → Bool) → ((row : Row) → AreOf line_kinds 0 row → passes tests params row ≡ p (line_in row))
      → list_all clean_line (map shown_line rows) ≡ true → map shown_line rows ≡ filter p (tables_in s.now.trees).lines
  lines_are p passed clean =
      let numbered = all_then clean_line (λ line. line.line < 2 ^ 64) line_numbered (map shown_line rows) clean in
      let known = all_both (AreOf line_kinds 0) (λ row. (line_in row).line < 2 ^ 64) found.sources
      (sources_have line_total line_in (s.now.trees 3) tests params found.sources found.same (AreOf line_kinds 0) cells)
      (all_of_map (λ line. line.line < 2 ^ 64) line_in found.sources (subst (AllByRecursion (λ line. line.line < 2 ^ 64)) told numbered)) in
      told ∙ sources_are line_total line_in (s.now.trees 3) tests params found.sources found.same p
      (all_such _ _ passed (s.now.trees 3) cells)
      (sources_sorted line_total line_in (s.now.trees 3) tests params found.sources found.same line_order IsNumberedLine
      (ranked params) known found.sorted)
      (hub_rises s hub).lines

  pub lines_spoil : list_all clean_line (map shown_line rows) ≡ false → are_clean (tables_in s.now.trees) ≡ false
  lines_spoil spoilt =
      let some = sources_spoil line_total line_in (s.now.trees 3) tests params found.sources found.same clean_line
      (sym (ap (list_all clean_line) told) ∙ spoilt) in
      lines_unclean (tables_in s.now.trees) some

abbrev ReadsLines : List Row → List LineRow → Type 0
ReadsLines rows items = items ≡ map shown_line rows

abbrev AreClean : List LineRow → Type 0
AreClean lines = list_all clean_line lines ≡ true

abbrev Spoil : List Row → Type 0
Spoil rows = list_all clean_line (map shown_line rows) ≡ false

pub lines_look : (old new : State) (supplier number : List ℕ) (result : Result (List LineRow) StoreFault) → IfOk result AreClean
    → Asks ReadsLines Spoil lines_text (Blob supplier ∷ Blob number ∷ []) old new result
    → LooksUp (λ t. lines_of (view supplier t) number) old new result
lines_look old new supplier number result clean asks =
    let params = Blob supplier ∷ Blob number ∷ [] in
    let passed : (row : Row) → AreOf line_kinds 0 row → passes
    (given_at 1 0 ∷ given_at 2 1 ∷ []) params row ≡ (same (line_in row).supplier supplier && same (line_in row).number number) =
    λ row it. ap₂ (λ v w. v && w) (cell_bytes (column row 1) supplier it.0) (and_true _ ∙ cell_bytes (column row 2) number it.1.0) in
    looks lines_select _ _ _ params old new
    (λ hub rows answer items it. it.0 ∙ lines_are old hub _ params rows answer _ passed (subst AreClean it.0 it.1)
    ∙ sym (filter_both (λ line. same line.supplier supplier) (λ line. same line.number number) (tables_in old.now.trees).lines))
    (λ hub rows answer spoilt. lines_spoil old hub _ params rows answer spoilt) result (reads_more AreClean result clean asks)

pub numbered_look : (old new : State) (supplier number : List ℕ) (n : ℕ) → n < 2 ^ 32 → (result : Result (List LineRow) StoreFault)
    → IfOk result AreClean → Asks ReadsLines Spoil numbered_text (Blob supplier ∷ Blob number ∷ Int (pos n) ∷ []) old new result
    → LooksUp (λ t. lines_numbered (view supplier t) number n) old new result
numbered_look old new supplier number n low result clean asks =
    let params = Blob supplier ∷ Blob number ∷ Int (pos n) ∷ [] in
    let whose : LineRow → Bool = λ line. same line.supplier supplier in
    let of_order : LineRow → Bool = λ line. same line.number number in
    let at : LineRow → Bool = λ line. line.line == n in
    let lines = (tables_in old.now.trees).lines in
    let passed : (row : Row) → AreOf line_kinds 0 row → passes
    numbered_tests params row ≡ (whose (line_in row) && (of_order (line_in row) && at (line_in row))) =
    λ row it. ap₂ (λ v w. v && w) (cell_bytes (column row 1) supplier it.0)
    (ap₂ (λ v w. v && w) (cell_bytes (column row 2) number it.1.0)
    (and_true _ ∙ cell_number (column row 3) n (omega (arith, low)) it.1.1.0)) in
    looks numbered_select _ _ _ params old new
    (λ hub rows answer items it. it.0 ∙ lines_are old hub _ params rows answer _ passed (subst AreClean it.0 it.1)
    ∙ sym (filter_both of_order at (filter whose lines) ∙ filter_both whose (λ line. of_order line && at line) lines))
    (λ hub rows answer spoilt. lines_spoil old hub _ params rows answer spoilt) result (reads_more AreClean result clean asks)

pub all_lines_look : (old new : State) (supplier : List ℕ) (result : Result (List LineRow) StoreFault) → IfOk result AreClean
    → Asks ReadsLines Spoil all_lines_text (Blob supplier ∷ []) old new result → LooksUp (λ t. (view supplier t).lines) old new result
all_lines_look old new supplier result clean asks =
    let params = Blob supplier ∷ [] in
    let passed : (row : Row) → AreOf line_kinds 0 row → passes (given_at 1 0 ∷ []) params row ≡ same (line_in row).supplier supplier =
    λ row it. and_true _ ∙ cell_bytes (column row 1) supplier it.0 in
    looks all_lines_select _ _ _ params old new
    (λ hub rows answer items it. it.0 ∙ lines_are old hub _ params rows answer (λ line. same line.supplier supplier) passed
    (subst AreClean it.0 it.1))
    (λ hub rows answer spoilt. lines_spoil old hub _ params rows answer spoilt) result (reads_more AreClean result clean asks)

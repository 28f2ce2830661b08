-- Proves the SQL statements for order lines.
use Rattle.std.proofs.Common.{◌≡◌, ℕ, ℤ, pos, ◌==◌, ◌&&◌, true, ap₂, ◌∙◌, List, [], ◌∷◌, ◌++◌, codes, refl}
use Rattle.std.proofs.lemmas.Bool.{and_parts}
use Rattle.sqlite_value.specs.declared.value.Value.TheVariants.{Null, Int}
use Rattle.sqlite_value.specs.declared.keys.Collation.TheVariants.{Binary}
use Rattle.sqlite_value.specs.Order.{Row, column}
use Rattle.sqlite_sql.specs.declared.ops.BinaryOp.TheVariants.{Compare}
use Rattle.sqlite_sql.specs.declared.ops.CompareOp.TheVariants.{Eq}
use Rattle.sqlite_sql.specs.Term.{Term, lit, col, op2}
use Rattle.sqlite_schema.specs.declared.command.Source.TheVariants.{Values}
use Rattle.sqlite_schema.specs.declared.command.Command.TheVariants.{Insert, Update}
use Rattle.sqlite_tied.specs.Compute.{everything}
use Rattle.sqlite.specs.Listing.{understood}
use Rattle.sql_rows.specs.Cells.{AreOf}
use Rattle.sql_rows.proofs.Answers.{and_true}
use Rattle.sql_rows.proofs.Inserts.{cast_null, cast_int}
use Rattle.sql_rows.proofs.Updates.{one_table}
use Rattle.hub_tables.specs.Rows.{same, line_cmp, same_line}
use Rattle.hub_tables.specs.declared.change.Change.TheVariants.{AddLine, SetLine}
use Rattle.hub_tables.specs.declared.rows.LineRow.{LineRow}
use Rattle.hub_tables.proofs.KindOrders.{line_total, line_set}
use Rattle.hub_tables.proofs.Lists.{same_is}
use Rattle.hub_schema.specs.Rows.{line_in}
use Rattle.hub_schema.specs.Schema.{line_table}
use Rattle.hub_schema.proofs.Single.{line_kinds, line_cells}
use Rattle.hub_writes.specs.Line as spec
use Rattle.hub_writes.proofs.Adds.{AddsRow, IsTied, adds}
use Rattle.hub_writes.proofs.Alters.{ReadsAs}
use Rattle.hub_writes.proofs.Keys.{agreeing, bytes_are, number_is, number_shown, number_same, bytes_equal, number_equal}
use Rattle.hub_writes.proofs.RowKinds.{StoredKind}
use Rattle.hub_writes.proofs.Sets.{Sets, becomes, passes, sets}

abbrev pub line_kind : StoredKind LineRow
line_kind = record {
  cmp = line_cmp;
  total = line_total;
  read = line_in;
  place = 2;
  table = line_table;
  found = refl;
  stored = λ _. refl;
  later = refl;
  typed = line_cells;
  rows = λ t. t.lines;
  with_rows = λ t rows. record t { lines = rows };
  set = λ _ _. refl;
  held = λ _. refl;
  shows = λ _ _. refl;
  rises = λ _ rising. rising.lines;
}

abbrev pub add_line : List ℕ
add_line =
    codes "INSERT INTO line (supplier, number, line, gtin, ordered, open_qty, refused, cancelled, answer) "
    ++ codes "VALUES (?1, ?2, ?3, ?4, ?5, ?6, ?7, ?8, ?9)"

abbrev terms : List Term
terms = lit Null ∷ col 0 0 ∷ col 0 1 ∷ col 0 2 ∷ col 0 3 ∷ col 0 4 ∷ col 0 5 ∷ col 0 6 ∷ col 0 7 ∷ col 0 8 ∷ []

add_line_is : ReadsAs add_line (Insert 2 (Values terms 10))
unfolding understood everything
add_line_is = (refl, (refl, refl))

abbrev pub set_line : List ℕ
set_line =
    codes "UPDATE line SET gtin = ?4, ordered = ?5, open_qty = ?6, refused = ?7, cancelled = ?8, answer = ?9 "
    ++ codes "WHERE supplier = ?1 AND number = ?2 AND line = ?3"

-- the row has the key
abbrev tests : List Term
tests = op2 (Compare Eq Binary) (col 1 1) (col 0 0) ∷ op2 (Compare Eq Binary) (col 1 2) (col 0 1)
    ∷ op2 (Compare Eq Binary) (col 1 3) (col 0 2) ∷ []

-- its row number, and the new values of the columns
abbrev shows : List Term
shows = col 1 0 ∷ col 1 0 ∷ col 1 1 ∷ col 1 2 ∷ col 1 3 ∷ col 0 3 ∷ col 0 4 ∷ col 0 5 ∷ col 0 6 ∷ col 0 7 ∷ col 0 8 ∷ []

set_line_is : ReadsAs set_line (Update 2 (record { lets = []; body = one_table 3 (λ _. refl) tests shows [] }))
unfolding understood everything
set_line_is = (refl, (refl, refl))

module _ (row : LineRow) where
  abbrev pub cells : Row
  cells = spec.cells row

  module _ (low : spec.IsLowLine row) where
    read_back : (n : ℤ) → line_in (Int n ∷ cells) ≡ row
    read_back n = rw (
      number_shown row.line low.0,
      number_shown row.ordered low.1,
      number_shown row.open_qty low.2,
      number_shown row.refused low.3,
      number_shown row.cancelled low.4,
      number_shown row.answer low.5,
    )

    tied : IsTied line_kind row cells
    tied n r typed = (
      λ e.
          let parts = agreeing (1 ∷ 2 ∷ 3 ∷ []) r (Int n ∷ cells) e in
          let supplier = bytes_are (column r 1) row.supplier typed.0 parts.0 in
          let number = bytes_are (column r 2) row.number typed.1.0 parts.1.0 in
          let line = number_is (column r 3) row.line low.0 typed.1.1.0 parts.1.1.0 in
          λ i. line_cmp (record (line_in r) { supplier = supplier i; number = number i; line = line i }) row,
      tt,
    )

    pub adds_line : AddsRow (AddLine row) add_line cells
    adds_line =
        adds line_kind (AddLine row) row cells add_line terms 10 add_line_is (λ t. refl)
        (λ t. refl) (λ db. rw (
          cast_null,
          cast_int (pos row.line),
          cast_int (pos row.ordered),
          cast_int (pos row.open_qty),
          cast_int (pos row.refused),
          cast_int (pos row.cancelled),
          cast_int (pos row.answer),
        )) read_back tied

    passes_is : (r : Row) → AreOf line_kinds 0 r → passes line_kind tests shows cells r ≡ same_line row (line_in r)
    passes_is r typed = ap₂ ◌&&◌ (bytes_equal (column r 1) row.supplier typed.0)
        (ap₂ ◌&&◌ (bytes_equal (column r 2) row.number typed.1.0)
        (and_true _ ∙ number_equal (column r 3) row.line low.0 typed.1.1.0))

    becomes_is : (r : Row) → AreOf line_kinds 0 r → same_line row (line_in r) ≡ true
        → line_in (becomes line_kind tests shows cells r) ≡ row
    becomes_is r typed e =
        let p1 = and_parts (same (line_in r).supplier row.supplier) ((same (line_in r).number row.number
        && ((line_in r).line == row.line))) e in
        let e1 = same_is (line_in r).supplier row.supplier p1.0 in
        let p2 = and_parts (same (line_in r).number row.number) (((line_in r).line == row.line)) p1.1 in
        let e2 = same_is (line_in r).number row.number p2.0 in
        let e3 : (line_in r).line ≡ row.line = number_same _ _ p2.1 in
        let placed : line_in (becomes line_kind tests shows cells r) ≡ record row {
          supplier = (line_in r).supplier;
          number = (line_in r).number;
          line = (line_in r).line;
        } = rw (
          typed.1.1.0.1,
          cast_int (typed.1.1.0.0),
          cast_int (pos row.ordered),
          number_shown row.ordered low.1,
          cast_int (pos row.open_qty),
          number_shown row.open_qty low.2,
          cast_int (pos row.refused),
          number_shown row.refused low.3,
          cast_int (pos row.cancelled),
          number_shown row.cancelled low.4,
          cast_int (pos row.answer),
          number_shown row.answer low.5,
        ) in
        placed ∙ (λ i. record row { supplier = e1 i; number = e2 i; line = e3 i })

    pub sets_line : Sets (SetLine row) set_line cells
    sets_line =
        sets line_kind tests shows cells (SetLine row) row (same_line row) set_line set_line_is
        (λ t. and_true _) (λ t. refl) (line_set row) (λ r. (refl, refl)) passes_is becomes_is

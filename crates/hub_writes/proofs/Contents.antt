-- Proves the SQL statements for contents of pallets.
use Rattle.std.proofs.Common.{◌≡◌, ℕ, ℤ, ◌<◌, ◌^◌, pos, List, [], ◌∷◌, codes, refl}
use Rattle.sqlite_value.specs.declared.value.Value.TheVariants.{Null, Int, Blob}
use Rattle.sqlite_value.specs.Order.{Row, column}
use Rattle.sqlite_sql.specs.Term.{Term, lit, col}
use Rattle.sqlite_schema.specs.declared.command.Source.TheVariants.{Values}
use Rattle.sqlite_schema.specs.declared.command.Command.TheVariants.{Insert}
use Rattle.sqlite_tied.specs.Compute.{everything}
use Rattle.sqlite.specs.Listing.{understood}
use Rattle.sql_rows.proofs.Inserts.{cast_null, cast_int}
use Rattle.hub_tables.specs.Rows.{content_cmp}
use Rattle.hub_tables.specs.declared.change.Change.TheVariants.{AddContent}
use Rattle.hub_tables.specs.declared.rows.ContentRow.{ContentRow}
use Rattle.hub_tables.proofs.KindOrders.{content_total}
use Rattle.hub_schema.specs.Rows.{content_in}
use Rattle.hub_schema.specs.Schema.{content_table}
use Rattle.hub_schema.proofs.Single.{content_cells}
use Rattle.hub_writes.proofs.Adds.{AddsRow, IsTied, adds}
use Rattle.hub_writes.proofs.Alters.{ReadsAs}
use Rattle.hub_writes.proofs.Keys.{agreeing, bytes_are, number_is, number_shown}
use Rattle.hub_writes.proofs.RowKinds.{StoredKind}

abbrev pub content_kind : StoredKind ContentRow
content_kind = record {
  cmp = content_cmp;
  total = content_total;
  read = content_in;
  place = 5;
  table = content_table;
  found = refl;
  stored = λ _. refl;
  later = refl;
  typed = content_cells;
  rows = λ t. t.contents;
  with_rows = λ t rows. record t { contents = rows };
  set = λ _ _. refl;
  held = λ _. refl;
  shows = λ _ _. refl;
  rises = λ _ rising. rising.contents;
}

abbrev pub add_content : List ℕ
add_content = codes "INSERT INTO content (sscc, place, number, line, quantity) VALUES (?1, ?2, ?3, ?4, ?5)"

abbrev terms : List Term
terms = lit Null ∷ col 0 0 ∷ col 0 1 ∷ col 0 2 ∷ col 0 3 ∷ col 0 4 ∷ []

add_content_is : ReadsAs add_content (Insert 5 (Values terms 6))
unfolding understood everything
add_content_is = (refl, (refl, refl))

module _ (row : ContentRow) where
  abbrev pub cells : Row
  cells = Blob row.sscc ∷ Int (pos row.place) ∷ Blob row.number ∷ Int (pos row.line) ∷ Int (pos row.quantity) ∷ []

  -- each number fits a u64
  abbrev pub IsLowContent : Type 0
  IsLowContent = (row.place < 2 ^ 64) × (row.line < 2 ^ 64) × (row.quantity < 2 ^ 64)

  module _ (low : IsLowContent) where
    read_back : (n : ℤ) → content_in (Int n ∷ cells) ≡ row
    read_back n = rw (number_shown row.place low.0, number_shown row.line low.1, number_shown row.quantity low.2)

    tied : IsTied content_kind row cells
    tied n r typed = (
      λ e.
          let parts = agreeing (1 ∷ 2 ∷ []) r (Int n ∷ cells) e in
          let sscc = bytes_are (column r 1) row.sscc typed.0 parts.0 in
          let place = number_is (column r 2) row.place low.0 typed.1.0 parts.1.0 in
          λ i. content_cmp (record (content_in r) { sscc = sscc i; place = place i }) row,
      tt,
    )

    pub adds_content : AddsRow (AddContent row) add_content cells
    adds_content =
        adds content_kind (AddContent row) row cells add_content terms 6 add_content_is (λ t. refl)
        (λ t. refl) (λ db. rw (
          cast_null,
          cast_int (pos row.place),
          cast_int (pos row.line),
          cast_int (pos row.quantity),
        )) read_back tied

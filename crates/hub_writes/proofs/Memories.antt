-- Proves the SQL statement that remembers messages and cancellations.
use Rattle.std.proofs.Common.{◌≡◌, ℕ, ℤ, ◌<◌, ◌^◌, pos, List, [], ◌∷◌, codes, refl}
use Rattle.sqlite_value.specs.declared.value.Value.TheVariants.{Null, Int, Blob}
use Rattle.sqlite_value.specs.Order.{Row, column}
use Rattle.sqlite_sql.specs.Term.{Term, lit, col}
use Rattle.sqlite_schema.specs.declared.command.Source.TheVariants.{Values}
use Rattle.sqlite_schema.specs.declared.command.Command.TheVariants.{Insert}
use Rattle.sqlite_tied.specs.Compute.{everything}
use Rattle.sqlite.specs.Listing.{understood}
use Rattle.sql_rows.proofs.Inserts.{cast_null, cast_int}
use Rattle.hub_tables.specs.Rows.{remembered_cmp}
use Rattle.hub_tables.specs.declared.change.Change.TheVariants.{Remember}
use Rattle.hub_tables.specs.declared.rows.RememberedRow.{RememberedRow}
use Rattle.hub_tables.proofs.KindOrders.{remembered_total}
use Rattle.hub_schema.specs.Rows.{remembered_in}
use Rattle.hub_schema.specs.Schema.{remembered_table}
use Rattle.hub_schema.proofs.Single.{remembered_cells}
use Rattle.hub_writes.proofs.Adds.{AddsRow, IsTied, adds}
use Rattle.hub_writes.proofs.Alters.{ReadsAs}
use Rattle.hub_writes.proofs.Keys.{agreeing, bytes_are, number_is, number_shown}
use Rattle.hub_writes.proofs.RowKinds.{StoredKind}

abbrev pub remembered_kind : StoredKind RememberedRow
remembered_kind = record {
  cmp = remembered_cmp;
  total = remembered_total;
  read = remembered_in;
  place = 7;
  table = remembered_table;
  found = refl;
  stored = λ _. refl;
  later = refl;
  typed = remembered_cells;
  rows = λ t. t.remembered;
  with_rows = λ t rows. record t { remembered = rows };
  set = λ _ _. refl;
  held = λ _. refl;
  shows = λ _ _. refl;
  rises = λ _ rising. rising.remembered;
}

abbrev pub remember : List ℕ
remember = codes "INSERT INTO remembered (supplier, side, control, message, content) VALUES (?1, ?2, ?3, ?4, ?5)"

abbrev terms : List Term
terms = lit Null ∷ col 0 0 ∷ col 0 1 ∷ col 0 2 ∷ col 0 3 ∷ col 0 4 ∷ []

remember_is : ReadsAs remember (Insert 7 (Values terms 6))
unfolding understood everything
remember_is = (refl, (refl, refl))

module _ (row : RememberedRow) where
  abbrev pub cells : Row
  cells = Blob row.supplier ∷ Int (pos row.side) ∷ Blob row.control ∷ Blob row.message ∷ Blob row.content ∷ []

  -- its number fits a u64
  abbrev pub IsLowMemory : Type 0
  IsLowMemory = row.side < 2 ^ 64

  module _ (low : IsLowMemory) where
    read_back : (n : ℤ) → remembered_in (Int n ∷ cells) ≡ row
    read_back n = rw (number_shown row.side low)

    tied : IsTied remembered_kind row cells
    tied n r typed = (
      λ e.
          let parts = agreeing (1 ∷ 2 ∷ 3 ∷ 4 ∷ []) r (Int n ∷ cells) e in
          let supplier = bytes_are (column r 1) row.supplier typed.0 parts.0 in
          let side = number_is (column r 2) row.side low typed.1.0 parts.1.0 in
          let control = bytes_are (column r 3) row.control typed.1.1.0 parts.1.1.0 in
          let message = bytes_are (column r 4) row.message typed.1.1.1.0 parts.1.1.1.0 in
          λ i. remembered_cmp (record (remembered_in r) {
            supplier = supplier i;
            side = side i;
            control = control i;
            message = message i;
          }) row,
      tt,
    )

    pub remembers : AddsRow (Remember row) remember cells
    remembers =
        adds remembered_kind (Remember row) row cells remember terms 6 remember_is (λ t. refl)
        (λ t. refl) (λ db. rw (cast_null, cast_int (pos row.side))) read_back tied

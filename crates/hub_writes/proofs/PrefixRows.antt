-- Proves the SQL statement for company prefixes.
use Rattle.std.proofs.Common.{ℕ, List, [], ◌∷◌, codes, refl}
use Rattle.sqlite_value.specs.declared.value.Value.TheVariants.{Null, Int, Blob}
use Rattle.sqlite_value.specs.Order.{Row, column}
use Rattle.sqlite_sql.specs.Term.{Term, lit, col}
use Rattle.sqlite_schema.specs.declared.command.Source.TheVariants.{Values}
use Rattle.sqlite_schema.specs.declared.command.Command.TheVariants.{Insert}
use Rattle.sqlite_tied.specs.Compute.{everything}
use Rattle.sqlite.specs.Listing.{understood}
use Rattle.sql_rows.proofs.Inserts.{cast_null}
use Rattle.hub_tables.specs.Rows.{prefix_cmp}
use Rattle.hub_tables.specs.declared.change.Change.TheVariants.{AddPrefix}
use Rattle.hub_tables.specs.declared.rows.PrefixRow.{PrefixRow}
use Rattle.hub_tables.proofs.KindOrders.{prefix_total}
use Rattle.hub_schema.specs.Rows.{prefix_row_in}
use Rattle.hub_schema.specs.Schema.{prefix_table}
use Rattle.hub_schema.proofs.Single.{prefix_cells}
use Rattle.hub_writes.proofs.Adds.{AddsRow, IsTied, adds}
use Rattle.hub_writes.proofs.Alters.{ReadsAs}
use Rattle.hub_writes.proofs.Keys.{agreeing, bytes_are}
use Rattle.hub_writes.proofs.RowKinds.{StoredKind}

abbrev pub prefix_kind : StoredKind PrefixRow
prefix_kind = record {
  cmp = prefix_cmp;
  total = prefix_total;
  read = prefix_row_in;
  place = 11;
  table = prefix_table;
  found = refl;
  stored = λ _. refl;
  later = refl;
  typed = prefix_cells;
  rows = λ t. t.prefixes;
  with_rows = λ t rows. record t { prefixes = rows };
  set = λ _ _. refl;
  held = λ _. refl;
  shows = λ _ _. refl;
  rises = λ _ rising. rising.prefixes;
}

abbrev pub add_prefix : List ℕ
add_prefix = codes "INSERT INTO prefix (prefix, supplier) VALUES (?1, ?2)"

abbrev terms : List Term
terms = lit Null ∷ col 0 0 ∷ col 0 1 ∷ []

add_prefix_is : ReadsAs add_prefix (Insert 11 (Values terms 3))
unfolding understood everything
add_prefix_is = (refl, (refl, refl))

module _ (row : PrefixRow) where
  abbrev pub cells : Row
  cells = Blob row.prefix ∷ Blob row.supplier ∷ []

  tied : IsTied prefix_kind row cells
  tied n r typed = (
    λ e.
        let parts = agreeing (1 ∷ []) r (Int n ∷ cells) e in
        let prefix = bytes_are (column r 1) row.prefix typed.0 parts.0 in
        λ i. prefix_cmp (record (prefix_row_in r) { prefix = prefix i }) row,
    tt,
  )

  pub adds_prefix : AddsRow (AddPrefix row) add_prefix cells
  adds_prefix =
      adds prefix_kind (AddPrefix row) row cells add_prefix terms 3 add_prefix_is (λ t. refl)
      (λ t. refl) (λ db. rw cast_null) (λ n. refl) tied

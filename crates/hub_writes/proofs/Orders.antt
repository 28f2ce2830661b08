-- Proves the SQL statements for orders.
use Rattle.std.proofs.Common.{ℕ, List, [], ◌∷◌, codes, refl}
use Rattle.sqlite_value.specs.declared.value.Value.TheVariants.{Null, Int, Blob}
use Rattle.sqlite_value.specs.Order.{Row, column}
use Rattle.sqlite_sql.specs.Term.{Term, lit, col}
use Rattle.sqlite_schema.specs.declared.command.Source.TheVariants.{Values}
use Rattle.sqlite_schema.specs.declared.command.Command.TheVariants.{Insert}
use Rattle.sqlite_tied.specs.Compute.{everything}
use Rattle.sqlite.specs.Listing.{understood}
use Rattle.sql_rows.proofs.Inserts.{cast_null}
use Rattle.hub_tables.specs.Rows.{order_cmp}
use Rattle.hub_tables.specs.declared.change.Change.TheVariants.{AddOrder}
use Rattle.hub_tables.specs.declared.rows.OrderRow.{OrderRow}
use Rattle.hub_tables.proofs.KindOrders.{order_total}
use Rattle.hub_schema.specs.Rows.{order_in}
use Rattle.hub_schema.specs.Schema.{order_table}
use Rattle.hub_schema.proofs.Single.{order_cells}
use Rattle.hub_writes.proofs.Adds.{AddsRow, IsTied, adds}
use Rattle.hub_writes.proofs.Alters.{ReadsAs}
use Rattle.hub_writes.proofs.Keys.{agreeing, bytes_are}
use Rattle.hub_writes.proofs.RowKinds.{StoredKind}

abbrev pub order_kind : StoredKind OrderRow
order_kind = record {
  cmp = order_cmp;
  total = order_total;
  read = order_in;
  place = 1;
  table = order_table;
  found = refl;
  stored = λ _. refl;
  later = refl;
  typed = order_cells;
  rows = λ t. t.orders;
  with_rows = λ t rows. record t { orders = rows };
  set = λ _ _. refl;
  held = λ _. refl;
  shows = λ _ _. refl;
  rises = λ _ rising. rising.orders;
}

abbrev pub add_order : List ℕ
add_order = codes "INSERT INTO \"order\" (supplier, number) VALUES (?1, ?2)"

abbrev terms : List Term
terms = lit Null ∷ col 0 0 ∷ col 0 1 ∷ []

add_order_is : ReadsAs add_order (Insert 1 (Values terms 3))
unfolding understood everything
add_order_is = (refl, (refl, refl))

module _ (row : OrderRow) where
  abbrev pub cells : Row
  cells = Blob row.supplier ∷ Blob row.number ∷ []

  tied : IsTied order_kind row cells
  tied n r typed = (
    λ e.
        let parts = agreeing (1 ∷ 2 ∷ []) r (Int n ∷ cells) e in
        let supplier = bytes_are (column r 1) row.supplier typed.0 parts.0 in
        let number = bytes_are (column r 2) row.number typed.1.0 parts.1.0 in
        λ i. order_cmp (record (order_in r) { supplier = supplier i; number = number i }) row,
    tt,
  )

  pub adds_order : AddsRow (AddOrder row) add_order cells
  adds_order =
      adds order_kind (AddOrder row) row cells add_order terms 3 add_order_is (λ t. refl)
      (λ t. refl) (λ db. rw cast_null) (λ n. refl) tied

-- Proves the SQL statements for despatch advices.
use Rattle.std.proofs.Common.{ℕ, List, [], ◌∷◌, codes, refl}
use Rattle.sqlite_value.specs.declared.value.Value.TheVariants.{Null, Int, Blob}
use Rattle.sqlite_value.specs.Order.{Row, column}
use Rattle.sqlite_sql.specs.Term.{Term, lit, col}
use Rattle.sqlite_schema.specs.declared.command.Source.TheVariants.{Values}
use Rattle.sqlite_schema.specs.declared.command.Command.TheVariants.{Insert}
use Rattle.sqlite_tied.specs.Compute.{everything}
use Rattle.sqlite.specs.Listing.{understood}
use Rattle.sql_rows.proofs.Inserts.{cast_null}
use Rattle.hub_tables.specs.Rows.{advice_cmp}
use Rattle.hub_tables.specs.declared.change.Change.TheVariants.{AddAdvice}
use Rattle.hub_tables.specs.declared.rows.AdviceRow.{AdviceRow}
use Rattle.hub_tables.proofs.KindOrders.{advice_total}
use Rattle.hub_schema.specs.Rows.{advice_in}
use Rattle.hub_schema.specs.Schema.{advice_table}
use Rattle.hub_schema.proofs.Single.{advice_cells}
use Rattle.hub_writes.proofs.Adds.{AddsRow, IsTied, adds}
use Rattle.hub_writes.proofs.Alters.{ReadsAs}
use Rattle.hub_writes.proofs.Keys.{agreeing, bytes_are}
use Rattle.hub_writes.proofs.RowKinds.{StoredKind}

abbrev pub advice_kind : StoredKind AdviceRow
advice_kind = record {
  cmp = advice_cmp;
  total = advice_total;
  read = advice_in;
  place = 3;
  table = advice_table;
  found = refl;
  stored = λ _. refl;
  later = refl;
  typed = advice_cells;
  rows = λ t. t.advices;
  with_rows = λ t rows. record t { advices = rows };
  set = λ _ _. refl;
  held = λ _. refl;
  shows = λ _ _. refl;
  rises = λ _ rising. rising.advices;
}

abbrev pub add_advice : List ℕ
add_advice = codes "INSERT INTO advice (supplier, number) VALUES (?1, ?2)"

abbrev terms : List Term
terms = lit Null ∷ col 0 0 ∷ col 0 1 ∷ []

add_advice_is : ReadsAs add_advice (Insert 3 (Values terms 3))
unfolding understood everything
add_advice_is = (refl, (refl, refl))

module _ (row : AdviceRow) where
  abbrev pub cells : Row
  cells = Blob row.supplier ∷ Blob row.number ∷ []

  tied : IsTied advice_kind row cells
  tied n r typed = (
    λ e.
        let parts = agreeing (1 ∷ 2 ∷ []) r (Int n ∷ cells) e in
        let supplier = bytes_are (column r 1) row.supplier typed.0 parts.0 in
        let number = bytes_are (column r 2) row.number typed.1.0 parts.1.0 in
        λ i. advice_cmp (record (advice_in r) { supplier = supplier i; number = number i }) row,
    tt,
  )

  pub adds_advice : AddsRow (AddAdvice row) add_advice cells
  adds_advice =
      adds advice_kind (AddAdvice row) row cells add_advice terms 3 add_advice_is (λ t. refl)
      (λ t. refl) (λ db. rw cast_null) (λ n. refl) tied

-- Proves the SQL statements for the hub's row.
use Rattle.std.proofs.Common.{◌≡◌, ℕ, true, ◌∙◌, List, [], ◌∷◌, codes, refl}
use Rattle.sqlite_value.specs.declared.value.Value.TheVariants.{Null, Int}
use Rattle.sqlite_value.specs.declared.keys.Collation.TheVariants.{Binary}
use Rattle.sqlite_value.specs.Order.{Row, column}
use Rattle.sqlite_sql.specs.declared.ops.BinaryOp.TheVariants.{Compare}
use Rattle.sqlite_sql.specs.declared.ops.CompareOp.TheVariants.{Eq}
use Rattle.sqlite_sql.specs.Term.{Term, lit, col, op2}
use Rattle.sqlite_schema.specs.declared.command.Source.TheVariants.{Values}
use Rattle.sqlite_schema.specs.declared.command.Command.TheVariants.{Insert, Update}
use Rattle.sqlite_tied.specs.Compute.{everything}
use Rattle.sqlite.specs.Listing.{understood}
use Rattle.sql_rows.specs.Cells.{AreOf}
use Rattle.sql_rows.proofs.Answers.{and_true}
use Rattle.sql_rows.proofs.Inserts.{cast_null}
use Rattle.sql_rows.proofs.Updates.{one_table}
use Rattle.hub_tables.specs.Rows.{hub_cmp, same_hub}
use Rattle.hub_tables.specs.declared.change.Change.TheVariants.{AddHub, SetHub}
use Rattle.hub_tables.specs.declared.rows.HubRow.{HubRow}
use Rattle.hub_tables.proofs.KindOrders.{hub_total, hub_set}
use Rattle.hub_tables.proofs.Lists.{same_is}
use Rattle.hub_schema.specs.Rows.{hub_row_in}
use Rattle.hub_schema.specs.Schema.{hub_table}
use Rattle.hub_schema.proofs.Single.{hub_kinds, hub_cells}
use Rattle.hub_writes.specs.Party as spec
use Rattle.hub_writes.proofs.Adds.{AddsRow, IsTied, adds}
use Rattle.hub_writes.proofs.Alters.{ReadsAs}
use Rattle.hub_writes.proofs.Keys.{agreeing, bytes_are, bytes_equal}
use Rattle.hub_writes.proofs.RowKinds.{StoredKind}
use Rattle.hub_writes.proofs.Sets.{Sets, becomes, passes, sets}

abbrev pub hub_kind : StoredKind HubRow
hub_kind = record {
  cmp = hub_cmp;
  total = hub_total;
  read = hub_row_in;
  place = 9;
  table = hub_table;
  found = refl;
  stored = λ _. refl;
  later = refl;
  typed = hub_cells;
  rows = λ t. t.hubs;
  with_rows = λ t rows. record t { hubs = rows };
  set = λ _ _. refl;
  held = λ _. refl;
  shows = λ _ _. refl;
  rises = λ _ rising. rising.hubs;
}

abbrev pub add_hub : List ℕ
add_hub = codes "INSERT INTO hub (hub, retailer, \"key\") VALUES (?1, ?2, ?3)"

abbrev terms : List Term
terms = lit Null ∷ col 0 0 ∷ col 0 1 ∷ col 0 2 ∷ []

add_hub_is : ReadsAs add_hub (Insert 9 (Values terms 4))
unfolding understood everything
add_hub_is = (refl, (refl, refl))

abbrev pub set_hub : List ℕ
set_hub = codes "UPDATE hub SET retailer = ?2, \"key\" = ?3 WHERE hub = ?1"

-- the row has the key
abbrev tests : List Term
tests = op2 (Compare Eq Binary) (col 1 1) (col 0 0) ∷ []

-- its row number, and the new values of the columns
abbrev shows : List Term
shows = col 1 0 ∷ col 1 0 ∷ col 1 1 ∷ col 0 1 ∷ col 0 2 ∷ []

set_hub_is : ReadsAs set_hub (Update 9 (record { lets = []; body = one_table 18 (λ _. refl) tests shows [] }))
unfolding understood everything
set_hub_is = (refl, (refl, refl))

module _ (row : HubRow) where
  abbrev pub cells : Row
  cells = spec.hub_cells row

  tied : IsTied hub_kind row cells
  tied n r typed = (
    λ e.
        let parts = agreeing (1 ∷ []) r (Int n ∷ cells) e in
        let hub = bytes_are (column r 1) row.hub typed.0 parts.0 in
        λ i. hub_cmp (record (hub_row_in r) { hub = hub i }) row,
    tt,
  )

  pub adds_hub : AddsRow (AddHub row) add_hub cells
  adds_hub =
      adds hub_kind (AddHub row) row cells add_hub terms 4 add_hub_is (λ t. refl)
      (λ t. refl) (λ db. rw cast_null) (λ n. refl) tied

  passes_is : (r : Row) → AreOf hub_kinds 0 r → passes hub_kind tests shows cells r ≡ same_hub row (hub_row_in r)
  passes_is r typed = and_true _ ∙ bytes_equal (column r 1) row.hub typed.0

  becomes_is : (r : Row) → AreOf hub_kinds 0 r → same_hub row (hub_row_in r) ≡ true
      → hub_row_in (becomes hub_kind tests shows cells r) ≡ row
  becomes_is r typed e =
      let same : (hub_row_in r).hub ≡ row.hub = same_is (hub_row_in r).hub row.hub e in
      let placed : hub_row_in (becomes hub_kind tests shows cells r) ≡ record row { hub = (hub_row_in r).hub } = refl in
      placed ∙ (λ i. record row { hub = same i })

  pub sets_hub : Sets (SetHub row) set_hub cells
  sets_hub =
      sets hub_kind tests shows cells (SetHub row) row (same_hub row) set_hub set_hub_is
      (λ t. and_true _) (λ t. refl) (hub_set row) (λ r. (refl, refl)) passes_is becomes_is

-- Proves the SQL statements for the keys of suppliers.
use Rattle.std.proofs.Common.{◌≡◌, ℕ, true, ◌∙◌, List, [], ◌∷◌, codes, refl}
use Rattle.sqlite_value.specs.declared.value.Value.TheVariants.{Null, Int}
use Rattle.sqlite_value.specs.declared.keys.Collation.TheVariants.{Binary}
use Rattle.sqlite_value.specs.Order.{Row, column}
use Rattle.sqlite_sql.specs.declared.ops.BinaryOp.TheVariants.{Compare}
use Rattle.sqlite_sql.specs.declared.ops.CompareOp.TheVariants.{Eq}
use Rattle.sqlite_sql.specs.Term.{Term, lit, col, op2}
use Rattle.sqlite_schema.specs.declared.command.Source.TheVariants.{Values}
use Rattle.sqlite_schema.specs.declared.command.Command.TheVariants.{Insert, Update}
use Rattle.sqlite_tied.specs.Compute.{everything}
use Rattle.sqlite.specs.Listing.{understood}
use Rattle.sql_rows.specs.Cells.{AreOf}
use Rattle.sql_rows.proofs.Answers.{and_true}
use Rattle.sql_rows.proofs.Inserts.{cast_null}
use Rattle.sql_rows.proofs.Updates.{one_table}
use Rattle.hub_tables.specs.Rows.{key_cmp, same_key}
use Rattle.hub_tables.specs.declared.change.Change.TheVariants.{AddKey, SetKey}
use Rattle.hub_tables.specs.declared.rows.KeyRow.{KeyRow}
use Rattle.hub_tables.proofs.KindOrders.{key_total, key_set}
use Rattle.hub_tables.proofs.Lists.{same_is}
use Rattle.hub_schema.specs.Rows.{key_row_in}
use Rattle.hub_schema.specs.Schema.{supplier_table}
use Rattle.hub_schema.proofs.Single.{key_kinds, key_cells}
use Rattle.hub_writes.specs.Party as spec
use Rattle.hub_writes.proofs.Adds.{AddsRow, IsTied, adds}
use Rattle.hub_writes.proofs.Alters.{ReadsAs}
use Rattle.hub_writes.proofs.Keys.{agreeing, bytes_are, bytes_equal}
use Rattle.hub_writes.proofs.RowKinds.{StoredKind}
use Rattle.hub_writes.proofs.Sets.{Sets, becomes, passes, sets}

abbrev pub key_kind : StoredKind KeyRow
key_kind = record {
  cmp = key_cmp;
  total = key_total;
  read = key_row_in;
  place = 10;
  table = supplier_table;
  found = refl;
  stored = λ _. refl;
  later = refl;
  typed = key_cells;
  rows = λ t. t.keys;
  with_rows = λ t rows. record t { keys = rows };
  set = λ _ _. refl;
  held = λ _. refl;
  shows = λ _ _. refl;
  rises = λ _ rising. rising.keys;
}

abbrev pub add_key : List ℕ
add_key = codes "INSERT INTO supplier (supplier, \"key\") VALUES (?1, ?2)"

abbrev terms : List Term
terms = lit Null ∷ col 0 0 ∷ col 0 1 ∷ []

add_key_is : ReadsAs add_key (Insert 10 (Values terms 3))
unfolding understood everything
add_key_is = (refl, (refl, refl))

abbrev pub set_key : List ℕ
set_key = codes "UPDATE supplier SET \"key\" = ?2 WHERE supplier = ?1"

-- the row has the key
abbrev tests : List Term
tests = op2 (Compare Eq Binary) (col 1 1) (col 0 0) ∷ []

-- its row number, and the new values of the columns
abbrev shows : List Term
shows = col 1 0 ∷ col 1 0 ∷ col 1 1 ∷ col 0 1 ∷ []

set_key_is : ReadsAs set_key (Update 10 (record { lets = []; body = one_table 20 (λ _. refl) tests shows [] }))
unfolding understood everything
set_key_is = (refl, (refl, refl))

module _ (row : KeyRow) where
  abbrev pub cells : Row
  cells = spec.key_cells row

  tied : IsTied key_kind row cells
  tied n r typed = (
    λ e.
        let parts = agreeing (1 ∷ []) r (Int n ∷ cells) e in
        let supplier = bytes_are (column r 1) row.supplier typed.0 parts.0 in
        λ i. key_cmp (record (key_row_in r) { supplier = supplier i }) row,
    tt,
  )

  pub adds_key : AddsRow (AddKey row) add_key cells
  adds_key =
      adds key_kind (AddKey row) row cells add_key terms 3 add_key_is (λ t. refl)
      (λ t. refl) (λ db. rw cast_null) (λ n. refl) tied

  passes_is : (r : Row) → AreOf key_kinds 0 r → passes key_kind tests shows cells r ≡ same_key row (key_row_in r)
  passes_is r typed = and_true _ ∙ bytes_equal (column r 1) row.supplier typed.0

  becomes_is : (r : Row) → AreOf key_kinds 0 r → same_key row (key_row_in r) ≡ true
      → key_row_in (becomes key_kind tests shows cells r) ≡ row
  becomes_is r typed e =
      let same : (key_row_in r).supplier ≡ row.supplier = same_is (key_row_in r).supplier row.supplier e in
      let placed : key_row_in (becomes key_kind tests shows cells r) ≡ record row { supplier = (key_row_in r).supplier } = refl in
      placed ∙ (λ i. record row { supplier = same i })

  pub sets_key : Sets (SetKey row) set_key cells
  sets_key =
      sets key_kind tests shows cells (SetKey row) row (same_key row) set_key set_key_is
      (λ t. and_true _) (λ t. refl) (key_set row) (λ r. (refl, refl)) passes_is becomes_is

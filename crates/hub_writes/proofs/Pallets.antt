-- Proves the SQL statements for pallets.
use Rattle.std.proofs.Common.{◌≡◌, ℕ, ℤ, pos, true, ◌∙◌, List, [], ◌∷◌, codes, refl}
use Rattle.sqlite_value.specs.declared.value.Value.TheVariants.{Null, Int}
use Rattle.sqlite_value.specs.declared.keys.Collation.TheVariants.{Binary}
use Rattle.sqlite_value.specs.Order.{Row, column}
use Rattle.sqlite_sql.specs.declared.ops.BinaryOp.TheVariants.{Compare}
use Rattle.sqlite_sql.specs.declared.ops.CompareOp.TheVariants.{Eq}
use Rattle.sqlite_sql.specs.Term.{Term, lit, col, op2}
use Rattle.sqlite_schema.specs.declared.command.Source.TheVariants.{Values}
use Rattle.sqlite_schema.specs.declared.command.Command.TheVariants.{Insert, Update}
use Rattle.sqlite_tied.specs.Compute.{everything}
use Rattle.sqlite.specs.Listing.{understood}
use Rattle.sql_rows.specs.Cells.{AreOf}
use Rattle.sql_rows.proofs.Answers.{and_true}
use Rattle.sql_rows.proofs.Inserts.{cast_null, cast_int}
use Rattle.sql_rows.proofs.Updates.{one_table}
use Rattle.hub_tables.specs.Rows.{pallet_cmp, same_pallet}
use Rattle.hub_tables.specs.declared.change.Change.TheVariants.{AddPallet, SetPallet}
use Rattle.hub_tables.specs.declared.rows.PalletRow.{PalletRow}
use Rattle.hub_tables.proofs.KindOrders.{pallet_total, pallet_set}
use Rattle.hub_tables.proofs.Lists.{same_is}
use Rattle.hub_schema.specs.Rows.{pallet_in}
use Rattle.hub_schema.specs.Schema.{pallet_table}
use Rattle.hub_schema.proofs.Single.{pallet_kinds, pallet_cells}
use Rattle.hub_writes.specs.Pallet as spec
use Rattle.hub_writes.proofs.Adds.{AddsRow, IsTied, adds}
use Rattle.hub_writes.proofs.Alters.{ReadsAs}
use Rattle.hub_writes.proofs.Keys.{agreeing, bytes_are, number_shown, bytes_equal}
use Rattle.hub_writes.proofs.RowKinds.{StoredKind}
use Rattle.hub_writes.proofs.Sets.{Sets, becomes, passes, sets}

abbrev pub pallet_kind : StoredKind PalletRow
pallet_kind = record {
  cmp = pallet_cmp;
  total = pallet_total;
  read = pallet_in;
  place = 4;
  table = pallet_table;
  found = refl;
  stored = λ _. refl;
  later = refl;
  typed = pallet_cells;
  rows = λ t. t.pallets;
  with_rows = λ t rows. record t { pallets = rows };
  set = λ _ _. refl;
  held = λ _. refl;
  shows = λ _ _. refl;
  rises = λ _ rising. rising.pallets;
}

abbrev pub add_pallet : List ℕ
add_pallet = codes "INSERT INTO pallet (sscc, supplier, advice, received) VALUES (?1, ?2, ?3, ?4)"

abbrev terms : List Term
terms = lit Null ∷ col 0 0 ∷ col 0 1 ∷ col 0 2 ∷ col 0 3 ∷ []

add_pallet_is : ReadsAs add_pallet (Insert 4 (Values terms 5))
unfolding understood everything
add_pallet_is = (refl, (refl, refl))

abbrev pub set_pallet : List ℕ
set_pallet = codes "UPDATE pallet SET supplier = ?2, advice = ?3, received = ?4 WHERE sscc = ?1"

-- the row has the key
abbrev tests : List Term
tests = op2 (Compare Eq Binary) (col 1 1) (col 0 0) ∷ []

-- its row number, and the new values of the columns
abbrev shows : List Term
shows = col 1 0 ∷ col 1 0 ∷ col 1 1 ∷ col 0 1 ∷ col 0 2 ∷ col 0 3 ∷ []

set_pallet_is : ReadsAs set_pallet (Update 4 (record { lets = []; body = one_table 7 (λ _. refl) tests shows [] }))
unfolding understood everything
set_pallet_is = (refl, (refl, refl))

module _ (row : PalletRow) where
  abbrev pub cells : Row
  cells = spec.cells row

  module _ (low : spec.IsLowPallet row) where
    read_back : (n : ℤ) → pallet_in (Int n ∷ cells) ≡ row
    read_back n = rw (number_shown row.received low)

    by_key : (r : Row) → (pallet_in r).sscc ≡ row.sscc → pallet_cmp (pallet_in r) row ≡ pallet_cmp row row
    by_key r same = λ i. pallet_cmp (record (pallet_in r) { sscc = same i }) row

    tied : IsTied pallet_kind row cells
    tied n r typed = (
      λ e. by_key r (bytes_are (column r 1) row.sscc typed.0 (agreeing (1 ∷ []) r (Int n ∷ cells) e).0),
      (λ e. by_key r (bytes_are (column r 1) row.sscc typed.0 (agreeing (2 ∷ 1 ∷ []) r (Int n ∷ cells) e).1.0), tt),
    )

    pub adds_pallet : AddsRow (AddPallet row) add_pallet cells
    adds_pallet =
        adds pallet_kind (AddPallet row) row cells add_pallet terms 5 add_pallet_is (λ t. refl)
        (λ t. refl) (λ db. rw (cast_null, cast_int (pos row.received))) read_back tied

    passes_is : (r : Row) → AreOf pallet_kinds 0 r → passes pallet_kind tests shows cells r ≡ same_pallet row (pallet_in r)
    passes_is r typed = and_true _ ∙ bytes_equal (column r 1) row.sscc typed.0

    becomes_is : (r : Row) → AreOf pallet_kinds 0 r → same_pallet row (pallet_in r) ≡ true
        → pallet_in (becomes pallet_kind tests shows cells r) ≡ row
    becomes_is r typed e =
        let e1 = same_is (pallet_in r).sscc row.sscc e in
        let placed : pallet_in (becomes pallet_kind tests shows cells r) ≡ record row { sscc = (pallet_in r).sscc } =
        rw (cast_int (pos row.received), number_shown row.received low) in
        placed ∙ (λ i. record row { sscc = e1 i })

    pub sets_pallet : Sets (SetPallet row) set_pallet cells
    sets_pallet =
        sets pallet_kind tests shows cells (SetPallet row) row (same_pallet row) set_pallet set_pallet_is
        (λ t. and_true _) (λ t. refl) (pallet_set row) (λ r. (refl, refl)) passes_is becomes_is

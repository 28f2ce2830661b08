-- Proves the SQL statements for receipts of articles.
use Rattle.std.proofs.Common.{◌≡◌, ◌<◌, ◌^◌, ℕ, ℤ, pos, Bool, true, not, filter, inl, inr, None, List, [], ◌∷◌, map}
use Rattle.std.proofs.Common.{codes, Ok, Err, Result, OnOk, refl, sym, ap, ◌∙◌}
use Rattle.std.specs.List.{AllByRecursion}
use Rattle.std.proofs.lemmas.Bool.{cases_Bool}
use Rattle.sqlite_value.specs.declared.value.Value.TheVariants.{Null, Int, Blob}
use Rattle.sqlite_value.specs.declared.keys.Collation.TheVariants.{Binary}
use Rattle.sqlite_value.specs.Order.{Row, column}
use Rattle.sqlite_sql.specs.declared.ops.BinaryOp.TheVariants.{Compare}
use Rattle.sqlite_sql.specs.declared.ops.CompareOp.TheVariants.{Eq}
use Rattle.sqlite_sql.specs.Term.{Term, lit, col, op2}
use Rattle.sqlite_schema.specs.declared.command.Source.TheVariants.{Values}
use Rattle.sqlite_schema.specs.declared.command.Command.TheVariants.{Insert, Delete}
use Rattle.sqlite_tied.specs.Compute.{everything}
use Rattle.sqlite.specs.declared.error.Error.{Error}
use Rattle.sqlite.specs.Listing.{understood}
use Rattle.sqlite.specs.State.{State, Writes, ExecutesInside}
use Rattle.sqlite.proofs.Callers.{runs_as}
use Rattle.sql_rows.specs.Cells.{AreOf}
use Rattle.sql_rows.proofs.Answers.{and_true}
use Rattle.sql_rows.proofs.Deletes.{removes}
use Rattle.sql_rows.proofs.Inserts.{cast_null, cast_int}
use Rattle.sql_rows.proofs.Updates.{one_table, passes}
use Rattle.hub_tables.specs.Change.{apply_all}
use Rattle.hub_tables.specs.Rows.{receipt_cmp, same}
use Rattle.hub_tables.specs.declared.change.Change.TheVariants.{AddReceipt, ClearReceipts}
use Rattle.hub_tables.specs.declared.rows.ReceiptRow.{ReceiptRow}
use Rattle.hub_tables.proofs.KindOrders.{receipt_total}
use Rattle.hub_schema.specs.Rows.{receipt_in, in_key_order}
use Rattle.hub_schema.specs.Schema.{hub_schema, receipt_table}
use Rattle.hub_schema.specs.State.{IsHub, Makes}
use Rattle.hub_schema.proofs.InKeyOrder.{listed_filter}
use Rattle.hub_schema.proofs.Single.{receipt_kinds, receipt_cells}
use Rattle.hub_writes.proofs.Adds.{AddsRow, IsTied, adds}
use Rattle.hub_writes.proofs.Alters.{ReadsAs, altered}
use Rattle.hub_writes.proofs.Keys.{agreeing, bytes_are, bytes_equal, number_shown}
use Rattle.hub_writes.proofs.RowKinds.{StoredKind, makes_rows, ordered}

abbrev pub receipt_kind : StoredKind ReceiptRow
receipt_kind = record {
  cmp = receipt_cmp;
  total = receipt_total;
  read = receipt_in;
  place = 6;
  table = receipt_table;
  found = refl;
  stored = λ _. refl;
  later = refl;
  typed = receipt_cells;
  rows = λ t. t.receipts;
  with_rows = λ t rows. record t { receipts = rows };
  set = λ _ _. refl;
  held = λ _. refl;
  shows = λ _ _. refl;
  rises = λ _ rising. rising.receipts;
}

abbrev pub add_receipt : List ℕ
add_receipt = codes "INSERT INTO receipt (sscc, gtin, accepted, returned, destroyed) VALUES (?1, ?2, ?3, ?4, ?5)"

abbrev terms : List Term
terms = lit Null ∷ col 0 0 ∷ col 0 1 ∷ col 0 2 ∷ col 0 3 ∷ col 0 4 ∷ []

add_receipt_is : ReadsAs add_receipt (Insert 6 (Values terms 6))
unfolding understood everything
add_receipt_is = (refl, (refl, refl))

module _ (row : ReceiptRow) where
  abbrev pub cells : Row
  cells = Blob row.sscc ∷ Blob row.gtin ∷ Int (pos row.accepted) ∷ Int (pos row.returned) ∷ Int (pos row.destroyed) ∷ []

  -- each number fits a u64
  abbrev pub IsLowReceipt : Type 0
  IsLowReceipt = (row.accepted < 2 ^ 64) × (row.returned < 2 ^ 64) × (row.destroyed < 2 ^ 64)

  module _ (low : IsLowReceipt) where
    read_back : (n : ℤ) → receipt_in (Int n ∷ cells) ≡ row
    read_back n = rw (number_shown row.accepted low.0, number_shown row.returned low.1, number_shown row.destroyed low.2)

    tied : IsTied receipt_kind row cells
    tied n r typed = (
      λ e.
          let parts = agreeing (1 ∷ 2 ∷ []) r (Int n ∷ cells) e in
          let sscc = bytes_are (column r 1) row.sscc typed.0 parts.0 in
          let gtin = bytes_are (column r 2) row.gtin typed.1.0 parts.1.0 in
          λ i. receipt_cmp (record (receipt_in r) { sscc = sscc i; gtin = gtin i }) row,
      tt,
    )

    pub adds_receipt : AddsRow (AddReceipt row) add_receipt cells
    adds_receipt =
        adds receipt_kind (AddReceipt row) row cells add_receipt terms 6 add_receipt_is (λ t. refl)
        (λ t. refl) (λ db. rw (
          cast_null,
          cast_int (pos row.accepted),
          cast_int (pos row.returned),
          cast_int (pos row.destroyed),
        )) read_back tied

-- A DELETE.

abbrev pub clear_receipts : List ℕ
clear_receipts = codes "DELETE FROM receipt WHERE sscc = ?1"

-- the row belongs to the pallet
abbrev tests : List Term
tests = op2 (Compare Eq Binary) (col 1 1) (col 0 0) ∷ []

-- its row number
abbrev shows : List Term
shows = col 1 0 ∷ []

clear_receipts_is : ReadsAs clear_receipts (Delete 6 (record { lets = []; body = one_table 12 (λ _. refl) tests shows [] }))
unfolding understood everything
clear_receipts_is = (refl, (refl, refl))

module _ (sscc : List ℕ) where
  abbrev pub cleared_cells : Row
  cleared_cells = Blob sscc ∷ []

  abbrev passes_all : Row → Bool
  passes_all = passes 12 (λ _. refl) tests shows cleared_cells

  passes_is : (r : Row) → AreOf receipt_kinds 0 r → passes_all r ≡ same (receipt_in r).sscc sscc
  passes_is r typed = and_true _ ∙ bytes_equal (column r 1) sscc typed.0

  all_left : (rows : List Row) → AllByRecursion (AreOf receipt_kinds 0) rows
      → map receipt_in (filter (λ r. not (passes_all r)) rows) ≡ filter (λ row. not (same row.sscc sscc)) (map receipt_in rows)
  all_left [] typed = refl
  all_left (r ∷ rows) typed = elim (cases_Bool (same (receipt_in r).sscc sscc)) [
    | inl e ↦ rw (passes_is r typed.0 ∙ e, e) (all_left rows typed.1)
    | inr e ↦ rw (passes_is r typed.0 ∙ e, e) (ap (λ more. receipt_in r ∷ more) (all_left rows typed.1))
  ]

  clears_receipts : (old new : State) (text : List ℕ) (count : ℕ) → IsHub old → old.in_transaction ≡ true
      → Writes old new None (Delete 6 (record { lets = []; body = one_table 12 (λ _. refl) tests shows cleared_cells })) text
      cleared_cells count
      → Makes (apply_all (ClearReceipts sscc ∷ [])) old new
  clears_receipts old new text count hub begun w =
      let db = old.now.trees in
      let did = removes hub_schema 6 12 _ _ _ _ _ refl (λ _ _. refl) (λ _. refl) tests shows cleared_cells (λ r. refl)
      old new text count hub.schema (ordered receipt_kind db hub.ordered) w in
      let it = altered 12 _ old new begun did.schema_is w.sound did.shaped did.rows did.others w.shown in
      makes_rows receipt_kind (ClearReceipts sscc) _ _ old new hub it
      (ap (in_key_order receipt_cmp) (all_left (db 12) (receipt_cells old.now hub.schema hub.sound hub.ordered))
      ∙ sym (listed_filter receipt_total (λ row. not (same row.sscc sscc)) (map receipt_in (db 12)))) refl

  pub clear_makes : (old new : State) (r : Result ℕ Error) → IsHub old → old.in_transaction ≡ true
      → ExecutesInside 0 clear_receipts cleared_cells old new r → OnOk r (Makes (apply_all (ClearReceipts sscc ∷ [])) old new)
  clear_makes old new (Err e) hub begun h = tt
  clear_makes old new (Ok count) hub begun h =
      clears_receipts old new _ count hub begun (runs_as clear_receipts cleared_cells old new hub_schema hub.schema _
      clear_receipts_is.0 clear_receipts_is.1 count h.0)

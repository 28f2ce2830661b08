-- Proves what a query finds of the goods on a pallet.
use Rattle.std.proofs.Common.{◌≡◌, ℕ, ◌==◌, Bool, not, length, cond, inl, inr, true, false, ◌&&◌, Result, List, [], ◌∷◌}
use Rattle.std.proofs.Common.{map, filter, refl, sym, ap, ap₂, subst, ◌∙◌}
use Rattle.std.specs.List.{list_all}
use Rattle.std.proofs.lemmas.Bool.{and_parts}
use Rattle.gs1_ids.specs.Digits.{is_key}
use Rattle.std.specs.Ordering.{ordering_then}
use Rattle.sqlite_value.specs.declared.value.Value.TheVariants.{Blob}
use Rattle.sqlite_value.specs.Order.{Row, column}
use Rattle.sqlite_sql.specs.Term.{col}
use Rattle.sqlite_sql.specs.Query.{IsAnswer, sort_cmp}
use Rattle.sqlite_sql.specs.Program.{overlay}
use Rattle.sqlite.specs.State.{State}
use Rattle.sql_rows.specs.Cells.{AreOf}
use Rattle.hub_store.specs.declared.fault.StoreFault.{StoreFault}
use Rattle.hub_tables.specs.Rows.{same, pallet_cmp}
use Rattle.hub_tables.specs.Tables.{view}
use Rattle.hub_tables.specs.declared.rows.PalletRow.{PalletRow}
use Rattle.hub_schema.specs.Rows.{pallet_in, tables_in}
use Rattle.hub_schema.specs.State.{IsHub, LooksUp}
use Rattle.hub_schema.proofs.Single.{pallet_kinds, pallet_cells, hub_rises}
use Rattle.hub_rows.specs.Asks.{Asks}
use Rattle.hub_rows.proofs.Counting.{cell_bytes, all_such}
use Rattle.hub_rows.proofs.Finding.{all_of, no_limit, passes, finds}
use Rattle.hub_rows.proofs.Looking.{looks}
use Rattle.hub_rows.proofs.Ranking.{then_none, rank_bytes, rank_numbers, low_number}
use Rattle.hub_reads.proofs.Texts.{given_at}
use Rattle.sql_rows.proofs.Answers.{and_true}
use Rattle.std.specs.Bool.{⊤}
use Rattle.hub_tables.proofs.Lists.{same_is}
use Rattle.hub_schema.proofs.InKeyOrder.{listed_any}
use Rattle.hub_rows.proofs.Counting.{any_shown, some_found}
use Rattle.std.proofs.Math.Bool.{and_comm}
use Rattle.hub_tables.specs.Rows.{content_cmp, receipt_cmp}
use Rattle.hub_tables.specs.State.{contents_of, receipts_of}
use Rattle.hub_tables.specs.Tables.{holds}
use Rattle.hub_tables.specs.declared.rows.ContentRow.{ContentRow}
use Rattle.hub_tables.specs.declared.rows.ReceiptRow.{ReceiptRow}
use Rattle.hub_tables.proofs.KindOrders.{content_total, receipt_total}
use Rattle.hub_store.specs.Clean.{clean_content, clean_receipt, is_line, is_number, is_quantity, is_within}
use Rattle.hub_schema.specs.Rows.{content_in, receipt_in}
use Rattle.hub_schema.proofs.Single.{content_kinds, content_cells, receipt_kinds, receipt_cells}
use Rattle.hub_rows.specs.Shown.{shown_content, shown_receipt}
use Rattle.hub_rows.proofs.Asking.{reads_more}
use Rattle.hub_rows.proofs.Listing.{rows_are, rows_spoil, all_then, all_any}
use Rattle.hub_rows.proofs.Unclean.{contents_unclean, receipts_unclean}
use Rattle.hub_reads.proofs.Texts.{held_text, held_selects, content_columns, on_pallet_order, contents_text}
use Rattle.hub_reads.proofs.Texts.{contents_select, receipts_text, receipts_select}
use Rattle.std.proofs.Common.{◌<◌, ◌^◌, IfOk}
use Rattle.hub_tables.proofs.Lists.{decide}
use Rattle.hub_rows.proofs.Joining.{looks_on, looks_then}
use Rattle.std.proofs.Common.{Ok}

held_right : (s : State) → IsHub s → (supplier sscc : List ℕ) (rows : List Row)
    → IsAnswer (all_of 7 (given_at 1 0 ∷ given_at 2 1 ∷ []) (col 1 2 ∷ []) []) (overlay s.now.trees [])
    (Blob sscc ∷ Blob supplier ∷ []) rows
    → not (length rows == 0) ≡ holds supplier (tables_in s.now.trees).pallets sscc
held_right s hub supplier sscc rows answer =
    let tests = given_at 1 0 ∷ given_at 2 1 ∷ [] in
    let params = Blob sscc ∷ Blob supplier ∷ [] in
    let test : PalletRow → Bool = λ pallet. same pallet.supplier supplier && same pallet.sscc sscc in
    let passed : (row : Row) → AreOf pallet_kinds 0 row → passes tests params row ≡ test (pallet_in row) =
    λ row it. ap₂ (λ v w. v && w) (cell_bytes (column row 1) sscc it.0) (and_true _ ∙ cell_bytes (column row 2) supplier it.1.0)
    ∙ and_comm (same (pallet_in row).sscc sscc) (same (pallet_in row).supplier supplier) in
    some_found (s.now.trees 7) tests (col 1 2 ∷ []) [] params rows
    (finds s.now.trees 7 tests (col 1 2 ∷ []) [] no_limit params rows refl answer)
    ∙ any_shown pallet_in test (passes tests params) (s.now.trees 7)
    (all_such _ _ passed (s.now.trees 7) (pallet_cells s.now hub.schema hub.sound hub.ordered))
    ∙ sym (listed_any pallet_cmp test (map pallet_in (s.now.trees 7)))

pub held_look : (old new : State) (supplier sscc : List ℕ) (result : Result Bool StoreFault)
    → Asks (λ rows answer. answer ≡ not (length rows == 0)) (λ _. ⊥) held_text (Blob sscc ∷ Blob supplier ∷ []) old new result
    → LooksUp (λ t. holds supplier t.pallets sscc) old new result
held_look old new supplier sscc =
    looks held_selects _ _ _ _ old new (λ hub rows answer x is. is ∙ held_right old hub supplier sscc rows answer)
    (λ hub rows answer no. absurd no)

content_ranked : (params x y : Row) → AreOf content_kinds 0 x × ((content_in x).place < 2 ^ 64) → AreOf content_kinds 0 y
    × ((content_in y).place < 2 ^ 64)
    → sort_cmp on_pallet_order (params ∷ x ∷ []) (params ∷ y ∷ []) ≡ content_cmp (content_in x) (content_in y)
content_ranked params x y a b =
    ap₂ ordering_then (rank_bytes (column x 1) (column y 1) a.0.0 b.0.0)
    (then_none _ ∙ rank_numbers (column x 2) (column y 2) a.0.1.0 b.0.1.0 a.1 b.1)

-- the place of a content that has the form of its kind fits a u64
content_numbered : (content : ContentRow) → clean_content content ≡ true → content.place < 2 ^ 64
content_numbered content h =
    let more = is_number content.number && (is_line content.line && is_quantity content.quantity) in
    let a = and_parts (is_key 18 content.sscc) (is_within 1 999_999 content.place && more) h in
    low_number content.place (and_parts (is_within 1 999_999 content.place) more a.1).0

pub contents_look : (old new : State) (sscc : List ℕ) (result : Result (List ContentRow) StoreFault)
    → IfOk result (λ contents. list_all clean_content contents ≡ true)
    → Asks (λ rows items. items ≡ map shown_content rows) (λ rows. list_all clean_content (map shown_content rows) ≡ false) contents_text
    (Blob sscc ∷ []) old new result
    → LooksUp (λ t. contents_of t sscc) old new result
contents_look old new sscc result clean asks =
    let tests = given_at 1 0 ∷ [] in
    let params = Blob sscc ∷ [] in
    let db = old.now.trees in
    let test : ContentRow → Bool = λ content. same content.sscc sscc in
    let passed : (row : Row) → AreOf content_kinds 0 row → passes tests params row ≡ test (content_in row) = λ row it. and_true _
    ∙ cell_bytes (column row 1) sscc it.0 in
    looks contents_select _ _ _ params old new
    (λ hub rows answer items it. it.0 ∙ rows_are content_total content_in shown_content content_columns on_pallet_order
    (db 10) tests params rows (λ row. refl)
    (finds db 10 tests content_columns on_pallet_order no_limit params rows refl answer)
    (AreOf content_kinds 0) (λ content. content.place < 2 ^ 64) (content_ranked params)
    (content_cells old.now hub.schema hub.sound hub.ordered) test passed (hub_rises old hub).contents
    (all_then clean_content (λ content. content.place < 2 ^ 64) content_numbered (map shown_content rows)
    (subst (λ contents. list_all clean_content contents ≡ true) it.0 it.1)))
    (λ hub rows answer spoilt. contents_unclean (tables_in db)
    (rows_spoil content_total content_in shown_content content_columns on_pallet_order (db 10) tests params rows (λ row. refl)
    (finds db 10 tests content_columns on_pallet_order no_limit params rows refl answer) clean_content spoilt)) result
    (reads_more (λ contents. list_all clean_content contents ≡ true) result clean asks)

receipt_ranked : (params x y : Row) → AreOf receipt_kinds 0 x × ⊤ → AreOf receipt_kinds 0 y × ⊤
    → sort_cmp on_pallet_order (params ∷ x ∷ []) (params ∷ y ∷ []) ≡ receipt_cmp (receipt_in x) (receipt_in y)
receipt_ranked params x y a b =
    ap₂ ordering_then (rank_bytes (column x 1) (column y 1) a.0.0 b.0.0)
    (then_none _ ∙ rank_bytes (column x 2) (column y 2) a.0.1.0 b.0.1.0)

pub receipts_look : (old new : State) (sscc : List ℕ) (result : Result (List ReceiptRow) StoreFault)
    → Asks (λ rows items. items ≡ map shown_receipt rows) (λ rows. list_all clean_receipt (map shown_receipt rows) ≡ false) receipts_text
    (Blob sscc ∷ []) old new result
    → LooksUp (λ t. receipts_of t sscc) old new result
receipts_look old new sscc =
    let tests = given_at 1 0 ∷ [] in
    let params = Blob sscc ∷ [] in
    let db = old.now.trees in
    let test : ReceiptRow → Bool = λ receipt. same receipt.sscc sscc in
    let passed : (row : Row) → AreOf receipt_kinds 0 row → passes tests params row ≡ test (receipt_in row) = λ row it. and_true _
    ∙ cell_bytes (column row 1) sscc it.0 in
    looks receipts_select _ _ _ params old new
    (λ hub rows answer items is. is ∙ rows_are receipt_total receipt_in shown_receipt content_columns on_pallet_order
    (db 12) tests params rows (λ row. refl)
    (finds db 12 tests content_columns on_pallet_order no_limit params rows refl answer)
    (AreOf receipt_kinds 0) (λ receipt. ⊤) (receipt_ranked params) (receipt_cells old.now hub.schema hub.sound hub.ordered) test passed
    (hub_rises old hub).receipts
    (all_any (map shown_receipt rows)))
    (λ hub rows answer spoilt. receipts_unclean (tables_in db)
    (rows_spoil receipt_total receipt_in shown_receipt content_columns on_pallet_order (db 12) tests params rows (λ row. refl)
    (finds db 12 tests content_columns on_pallet_order no_limit params rows refl answer) clean_receipt spoilt))

-- A supplier sees everything on its own pallet, and nothing on another's.
module _ {X : Type 0} (sscc_of : X → List ℕ) (held : List ℕ → Bool) (sscc : List ℕ) where
  pub seen : (xs : List X) → true ≡ held sscc → filter (λ x. same (sscc_of x) sscc) xs ≡ filter (λ x. same (sscc_of x) sscc)
      (filter (λ x. held (sscc_of x)) xs)
  seen [] has = refl
  seen (x ∷ xs) has = elim (decide (same (sscc_of x) sscc)) [
    | inl e ↦
        let here : held (sscc_of x) ≡ true = ap held (same_is (sscc_of x) sscc e) ∙ sym has in
        rw (e, here, e, seen xs has)
    | inr e ↦ elim (held (sscc_of x)) as (λ v. filter (λ x. same (sscc_of x) sscc) (x ∷ xs) ≡ filter (λ x. same (sscc_of x) sscc)
        (cond v (x ∷ filter (λ x. held (sscc_of x)) xs) (filter (λ x. held (sscc_of x)) xs)))
        [ true ↦ rw (e, seen xs has) | false ↦ rw (e, seen xs has) ]
  ]

  pub unseen : (xs : List X) → false ≡ held sscc → [] ≡ filter (λ x. same (sscc_of x) sscc) (filter (λ x. held (sscc_of x)) xs)
  unseen [] has = refl
  unseen (x ∷ xs) has = elim (decide (held (sscc_of x))) [
    | inl e ↦
        elim (decide (same (sscc_of x) sscc)) [
          | inl at ↦ absurd (let no : true ≡ false = sym e ∙ ap held (same_is (sscc_of x) sscc at) ∙ sym has in cc)
          | inr at ↦ rw (e, at, unseen xs has)
        ]
    | inr e ↦ rw (e, unseen xs has)
  ]

pub contents_unseen : (old new : State) (supplier sscc : List ℕ) (held : Bool) (rows : List ContentRow) → held ≡ false → rows ≡ []
    → LooksUp (λ t. holds supplier t.pallets sscc) old new (Ok held) → LooksUp (λ t. contents_of (view supplier t) sscc) old new (Ok rows)
contents_unseen old new supplier sscc held rows other none =
    looks_on _ _ old new held rows (λ t is. none ∙ unseen (λ (row : ContentRow). row.sscc) (holds supplier t.pallets) sscc t.contents
    (sym other ∙ is))

pub contents_seen : (old mid new : State) (supplier sscc : List ℕ) (held : Bool) → held ≡ true
    → LooksUp (λ t. holds supplier t.pallets sscc) old mid (Ok held) → (result : Result (List ContentRow) StoreFault)
    → LooksUp (λ t. contents_of t sscc) mid new result
    → LooksUp (λ t. contents_of (view supplier t) sscc) old new result
contents_seen old mid new supplier sscc held own =
    looks_then _ _ _ old mid new held (λ t is. seen (λ (row : ContentRow). row.sscc) (holds supplier t.pallets) sscc t.contents
    (sym own ∙ is))

pub receipts_unseen : (old new : State) (supplier sscc : List ℕ) (held : Bool) (rows : List ReceiptRow) → held ≡ false → rows ≡ []
    → LooksUp (λ t. holds supplier t.pallets sscc) old new (Ok held) → LooksUp (λ t. receipts_of (view supplier t) sscc) old new (Ok rows)
receipts_unseen old new supplier sscc held rows other none =
    looks_on _ _ old new held rows (λ t is. none ∙ unseen (λ (row : ReceiptRow). row.sscc) (holds supplier t.pallets) sscc t.receipts
    (sym other ∙ is))

pub receipts_seen : (old mid new : State) (supplier sscc : List ℕ) (held : Bool) → held ≡ true
    → LooksUp (λ t. holds supplier t.pallets sscc) old mid (Ok held) → (result : Result (List ReceiptRow) StoreFault)
    → LooksUp (λ t. receipts_of t sscc) mid new result
    → LooksUp (λ t. receipts_of (view supplier t) sscc) old new result
receipts_seen old mid new supplier sscc held own =
    looks_then _ _ _ old mid new held (λ t is. seen (λ (row : ReceiptRow). row.sscc) (holds supplier t.pallets) sscc t.receipts
    (sym own ∙ is))

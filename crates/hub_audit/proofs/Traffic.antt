-- The rows of orders, goods and messages, those of one supplier or pallet.
use Rattle.std.proofs.Common.{◌≡◌, ℕ, ◌<◌, ◌^◌, true, Result, List, [], ◌∷◌, refl, ap₂, ◌∙◌, arith}
use Rattle.std.specs.Bool.{⊤}
use Rattle.std.specs.Ordering.{ordering_then}
use Rattle.sqlite_value.specs.Order.{column}
use Rattle.sqlite_value.specs.declared.value.Value.TheVariants.{Blob}
use Rattle.sqlite.specs.State.{State}
use Rattle.sql_rows.specs.Cells.{AreOf}
use Rattle.sql_rows.proofs.Answers.{and_true}
use Rattle.hub_rows.proofs.Counting.{cell_bytes}
use Rattle.hub_rows.specs.Asks.{Asks}
use Rattle.hub_rows.specs.Shown.{shown_order, shown_line, shown_advice, shown_pallet, shown_content, shown_receipt}
use Rattle.hub_rows.specs.Shown.{shown_remembered, shown_mail}
use Rattle.hub_rows.proofs.Ranking.{then_none, rank_bytes, rank_numbers}
use Rattle.hub_schema.specs.Rows.{order_in, line_in, advice_in, pallet_in, content_in, receipt_in, remembered_in, mail_in}
use Rattle.hub_schema.specs.State.{LooksFor}
use Rattle.hub_schema.proofs.Single.{hub_rises, order_kinds, line_kinds, pallet_kinds, content_kinds, receipt_kinds}
use Rattle.hub_schema.proofs.Single.{remembered_kinds, mail_kinds, order_cells, line_cells, advice_cells}
use Rattle.hub_schema.proofs.Single.{pallet_cells, content_cells, receipt_cells, remembered_cells, mail_cells}
use Rattle.hub_sound.specs.Finding.{order_key, line_key, advice_key, pallet_key, content_key, receipt_key, remembered_key, mail_key}
use Rattle.hub_store.specs.Clean.{clean_order, clean_line, clean_advice, clean_pallet, clean_content, clean_receipt}
use Rattle.hub_store.specs.Clean.{clean_remembered, clean_mail}
use Rattle.hub_store.specs.declared.fault.StoreFault.{StoreFault}
use Rattle.hub_tables.proofs.KindOrders.{order_total, line_total, advice_total, pallet_total, content_total}
use Rattle.hub_tables.proofs.KindOrders.{receipt_total, remembered_total, mail_total}
use Rattle.hub_tables.specs.Rows.{same}
use Rattle.hub_tables.specs.State.{contents_of, receipts_of}
use Rattle.hub_tables.specs.Tables.{view}
use Rattle.hub_tables.specs.declared.rows.OrderRow.{OrderRow}
use Rattle.hub_tables.specs.declared.rows.LineRow.{LineRow}
use Rattle.hub_tables.specs.declared.rows.AdviceRow.{AdviceRow}
use Rattle.hub_tables.specs.declared.rows.PalletRow.{PalletRow}
use Rattle.hub_tables.specs.declared.rows.ContentRow.{ContentRow}
use Rattle.hub_tables.specs.declared.rows.ReceiptRow.{ReceiptRow}
use Rattle.hub_tables.specs.declared.rows.RememberedRow.{RememberedRow}
use Rattle.hub_tables.specs.declared.rows.MailRow.{MailRow}
use Rattle.hub_pieces.specs.AllRows.{IsRead}
use Rattle.hub_pieces.specs.declared.all_rows.Read.{Read as Found}
use Rattle.hub_audit.specs.Every.{AreRead}
use Rattle.hub_audit.specs.declared.key.Part.TheVariants.{Text, Number}
use Rattle.hub_audit.proofs.EveryRow.{every_row}
use Rattle.hub_audit.proofs.Texts.{by_first, by_second, two_columns, nine_columns, four_columns, five_columns, eight_columns, by_two}
use Rattle.hub_audit.proofs.Texts.{by_three, by_one, by_four}
use Rattle.hub_audit.proofs.Texts.{orders_text, orders_select, lines_text, lines_select, advices_text, advices_select}
use Rattle.hub_audit.proofs.Texts.{pallets_text, pallets_select, contents_text, contents_select, receipts_text}
use Rattle.hub_audit.proofs.Texts.{receipts_select, remembered_text, remembered_select, mail_text, mail_select}
use Rattle.std.proofs.lemmas.Bool.{and_parts}
use Rattle.std.proofs.lemmas.Bool.Decides.{nat_tests}
use Rattle.edi_envelope.specs.Mail.{last_number}
use Rattle.hub_rows.proofs.Ranking.{low_number}
use Rattle.hub_store.specs.Clean.{is_side, is_within}

-- The numbers of keys, in rows of their kind.

line_low : (line : LineRow) → clean_line line ≡ true → line.line < 2 ^ 64
line_low line h = low_number line.line (and_parts _ _ (and_parts _ _ (and_parts _ _ h).1).1).0

content_low : (row : ContentRow) → clean_content row ≡ true → row.place < 2 ^ 64
content_low row h = low_number row.place (and_parts _ _ (and_parts _ _ h).1).0

side_low : (side : ℕ) → is_side side ≡ true → side < 2 ^ 64
side_low side h = grind (arith, nat_tests, h)

remembered_low : (row : RememberedRow) → clean_remembered row ≡ true → row.side < 2 ^ 64
remembered_low row h = side_low row.side (and_parts _ _ (and_parts _ _ h).1).0

number_low : (n : ℕ) → is_within 1 last_number n ≡ true → n < 2 ^ 64
number_low n h = grind (arith, nat_tests, h)

mail_low : (row : MailRow) → clean_mail row ≡ true → row.number < 2 ^ 64
mail_low row h = number_low row.number (and_parts _ _ (and_parts _ _ h).1).0

pub orders_read : (supplier : List ℕ) (old new : State) (result : Result (Found OrderRow) StoreFault)
    → Asks (AreRead shown_order clean_order (Text ∷ Text ∷ [])) (λ rows. ⊥) orders_text (Blob supplier ∷ []) old new result
    → LooksFor (λ t. IsRead order_key clean_order (view supplier t).orders) (λ t. ⊥) old new result
orders_read supplier =
    every_row order_total order_in shown_order two_columns by_two by_first (Blob supplier ∷ [])
    (λ row. refl) clean_order order_key (Text ∷ Text ∷ []) (λ row. refl)
    (AreOf order_kinds 0) (λ row. ⊤) (λ row h. tt)
    (λ x y a b. ap₂ ordering_then (rank_bytes (column x 1) (column y 1) a.0.0 b.0.0)
    (then_none _ ∙ rank_bytes (column x 2) (column y 2) a.0.1.0 b.0.1.0))
    (λ (row : OrderRow). same row.supplier supplier) (λ row it. and_true _ ∙ cell_bytes (column row 1) supplier it.0)
    1 orders_select (λ db. refl) (λ t. (view supplier t).orders) (λ db. refl)
    (λ s hub. order_cells s.now hub.schema hub.sound hub.ordered) (λ s hub. (hub_rises s hub).orders)

pub lines_read : (supplier : List ℕ) (old new : State) (result : Result (Found LineRow) StoreFault)
    → Asks (AreRead shown_line clean_line (Text ∷ Text ∷ Number ∷ [])) (λ rows. ⊥) lines_text (Blob supplier ∷ []) old new result
    → LooksFor (λ t. IsRead line_key clean_line (view supplier t).lines) (λ t. ⊥) old new result
lines_read supplier =
    every_row line_total line_in shown_line nine_columns by_three by_first (Blob supplier ∷ [])
    (λ row. refl) clean_line line_key (Text ∷ Text ∷ Number ∷ []) (λ row. refl)
    (AreOf line_kinds 0) (λ (row : LineRow). row.line < 2 ^ 64) line_low
    (λ x y a b. ap₂ ordering_then (rank_bytes (column x 1) (column y 1) a.0.0 b.0.0)
    (ap₂ ordering_then (rank_bytes (column x 2) (column y 2) a.0.1.0 b.0.1.0)
    (then_none _ ∙ rank_numbers (column x 3) (column y 3) a.0.1.1.0 b.0.1.1.0 a.1 b.1)))
    (λ (row : LineRow). same row.supplier supplier) (λ row it. and_true _ ∙ cell_bytes (column row 1) supplier it.0)
    3 lines_select (λ db. refl) (λ t. (view supplier t).lines) (λ db. refl)
    (λ s hub. line_cells s.now hub.schema hub.sound hub.ordered) (λ s hub. (hub_rises s hub).lines)

pub advices_read : (supplier : List ℕ) (old new : State) (result : Result (Found AdviceRow) StoreFault)
    → Asks (AreRead shown_advice clean_advice (Text ∷ Text ∷ [])) (λ rows. ⊥) advices_text (Blob supplier ∷ []) old new result
    → LooksFor (λ t. IsRead advice_key clean_advice (view supplier t).advices) (λ t. ⊥) old new result
advices_read supplier =
    every_row advice_total advice_in shown_advice two_columns by_two by_first (Blob supplier ∷ [])
    (λ row. refl) clean_advice advice_key (Text ∷ Text ∷ []) (λ row. refl)
    (AreOf order_kinds 0) (λ row. ⊤) (λ row h. tt)
    (λ x y a b. ap₂ ordering_then (rank_bytes (column x 1) (column y 1) a.0.0 b.0.0)
    (then_none _ ∙ rank_bytes (column x 2) (column y 2) a.0.1.0 b.0.1.0))
    (λ (row : AdviceRow). same row.supplier supplier) (λ row it. and_true _ ∙ cell_bytes (column row 1) supplier it.0)
    5 advices_select (λ db. refl) (λ t. (view supplier t).advices) (λ db. refl)
    (λ s hub. advice_cells s.now hub.schema hub.sound hub.ordered) (λ s hub. (hub_rises s hub).advices)

pub pallets_read : (supplier : List ℕ) (old new : State) (result : Result (Found PalletRow) StoreFault)
    → Asks (AreRead shown_pallet clean_pallet (Text ∷ [])) (λ rows. ⊥) pallets_text (Blob supplier ∷ []) old new result
    → LooksFor (λ t. IsRead pallet_key clean_pallet (view supplier t).pallets) (λ t. ⊥) old new result
pallets_read supplier =
    every_row pallet_total pallet_in shown_pallet four_columns by_one by_second (Blob supplier ∷ [])
    (λ row. refl) clean_pallet pallet_key (Text ∷ []) (λ row. refl)
    (AreOf pallet_kinds 0) (λ row. ⊤) (λ row h. tt)
    (λ x y a b. then_none _ ∙ rank_bytes (column x 1) (column y 1) a.0.0 b.0.0)
    (λ (row : PalletRow). same row.supplier supplier) (λ row it. and_true _ ∙ cell_bytes (column row 2) supplier it.1.0)
    7 pallets_select (λ db. refl) (λ t. (view supplier t).pallets) (λ db. refl)
    (λ s hub. pallet_cells s.now hub.schema hub.sound hub.ordered) (λ s hub. (hub_rises s hub).pallets)

pub contents_read : (sscc : List ℕ) (old new : State) (result : Result (Found ContentRow) StoreFault)
    → Asks (AreRead shown_content clean_content (Text ∷ Number ∷ [])) (λ rows. ⊥) contents_text (Blob sscc ∷ []) old new result
    → LooksFor (λ t. IsRead content_key clean_content (contents_of t sscc)) (λ t. ⊥) old new result
contents_read sscc =
    every_row content_total content_in shown_content five_columns by_two by_first (Blob sscc ∷ [])
    (λ row. refl) clean_content content_key (Text ∷ Number ∷ []) (λ row. refl)
    (AreOf content_kinds 0) (λ (row : ContentRow). row.place < 2 ^ 64) content_low
    (λ x y a b. ap₂ ordering_then (rank_bytes (column x 1) (column y 1) a.0.0 b.0.0)
    (then_none _ ∙ rank_numbers (column x 2) (column y 2) a.0.1.0 b.0.1.0 a.1 b.1))
    (λ (row : ContentRow). same row.sscc sscc) (λ row it. and_true _ ∙ cell_bytes (column row 1) sscc it.0)
    10 contents_select (λ db. refl) (λ t. contents_of t sscc) (λ db. refl)
    (λ s hub. content_cells s.now hub.schema hub.sound hub.ordered) (λ s hub. (hub_rises s hub).contents)

pub receipts_read : (sscc : List ℕ) (old new : State) (result : Result (Found ReceiptRow) StoreFault)
    → Asks (AreRead shown_receipt clean_receipt (Text ∷ Text ∷ [])) (λ rows. ⊥) receipts_text (Blob sscc ∷ []) old new result
    → LooksFor (λ t. IsRead receipt_key clean_receipt (receipts_of t sscc)) (λ t. ⊥) old new result
receipts_read sscc =
    every_row receipt_total receipt_in shown_receipt five_columns by_two by_first (Blob sscc ∷ [])
    (λ row. refl) clean_receipt receipt_key (Text ∷ Text ∷ []) (λ row. refl)
    (AreOf receipt_kinds 0) (λ row. ⊤) (λ row h. tt)
    (λ x y a b. ap₂ ordering_then (rank_bytes (column x 1) (column y 1) a.0.0 b.0.0)
    (then_none _ ∙ rank_bytes (column x 2) (column y 2) a.0.1.0 b.0.1.0))
    (λ (row : ReceiptRow). same row.sscc sscc) (λ row it. and_true _ ∙ cell_bytes (column row 1) sscc it.0)
    12 receipts_select (λ db. refl) (λ t. receipts_of t sscc) (λ db. refl)
    (λ s hub. receipt_cells s.now hub.schema hub.sound hub.ordered) (λ s hub. (hub_rises s hub).receipts)

pub remembered_read : (supplier : List ℕ) (old new : State) (result : Result (Found RememberedRow) StoreFault)
    → Asks (AreRead shown_remembered clean_remembered (Text ∷ Number ∷ Text ∷ Text ∷ [])) (λ rows. ⊥)
    remembered_text (Blob supplier ∷ []) old new result
    → LooksFor (λ t. IsRead remembered_key clean_remembered (view supplier t).remembered) (λ t. ⊥) old new result
remembered_read supplier =
    every_row remembered_total remembered_in shown_remembered five_columns by_four by_first (Blob supplier ∷ [])
    (λ row. refl) clean_remembered remembered_key (Text ∷ Number ∷ Text ∷ Text ∷ []) (λ row. refl)
    (AreOf remembered_kinds 0) (λ (row : RememberedRow). row.side < 2 ^ 64) remembered_low
    (λ x y a b. ap₂ ordering_then (rank_bytes (column x 1) (column y 1) a.0.0 b.0.0)
    (ap₂ ordering_then (rank_numbers (column x 2) (column y 2) a.0.1.0 b.0.1.0 a.1 b.1)
    (ap₂ ordering_then (rank_bytes (column x 3) (column y 3) a.0.1.1.0 b.0.1.1.0)
    (then_none _ ∙ rank_bytes (column x 4) (column y 4) a.0.1.1.1.0 b.0.1.1.1.0))))
    (λ (row : RememberedRow). same row.supplier supplier) (λ row it. and_true _ ∙ cell_bytes (column row 1) supplier it.0)
    14 remembered_select (λ db. refl) (λ t. (view supplier t).remembered) (λ db. refl)
    (λ s hub. remembered_cells s.now hub.schema hub.sound hub.ordered) (λ s hub. (hub_rises s hub).remembered)

pub mail_read : (supplier : List ℕ) (old new : State) (result : Result (Found MailRow) StoreFault)
    → Asks (AreRead shown_mail clean_mail (Text ∷ Number ∷ [])) (λ rows. ⊥) mail_text (Blob supplier ∷ []) old new result
    → LooksFor (λ t. IsRead mail_key clean_mail (view supplier t).mail) (λ t. ⊥) old new result
mail_read supplier =
    every_row mail_total mail_in shown_mail eight_columns by_two by_first (Blob supplier ∷ [])
    (λ row. refl) clean_mail mail_key (Text ∷ Number ∷ []) (λ row. refl)
    (AreOf mail_kinds 0) (λ (row : MailRow). row.number < 2 ^ 64) mail_low
    (λ x y a b. ap₂ ordering_then (rank_bytes (column x 1) (column y 1) a.0.0 b.0.0)
    (then_none _ ∙ rank_numbers (column x 2) (column y 2) a.0.1.0 b.0.1.0 a.1 b.1))
    (λ (row : MailRow). same row.supplier supplier) (λ row it. and_true _ ∙ cell_bytes (column row 1) supplier it.0)
    16 mail_select (λ db. refl) (λ t. (view supplier t).mail) (λ db. refl)
    (λ s hub. mail_cells s.now hub.schema hub.sound hub.ordered) (λ s hub. (hub_rises s hub).mail)

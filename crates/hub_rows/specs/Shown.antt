-- Defines how the columns that a query shows are read: all columns of a row but the row number.
use Rattle.std.specs.Prelude.{ℕ, List, ◌∷◌}
use Rattle.sqlite_value.specs.declared.value.Value.TheVariants.{Null}
use Rattle.sqlite_value.specs.Order.{Row, column}
use Rattle.hub_tables.specs.declared.rows.HubRow.{HubRow}
use Rattle.hub_tables.specs.declared.rows.KeyRow.{KeyRow}
use Rattle.hub_tables.specs.declared.rows.PrefixRow.{PrefixRow}
use Rattle.hub_tables.specs.declared.rows.OrderRow.{OrderRow}
use Rattle.hub_tables.specs.declared.rows.LineRow.{LineRow}
use Rattle.hub_tables.specs.declared.rows.AdviceRow.{AdviceRow}
use Rattle.hub_tables.specs.declared.rows.PalletRow.{PalletRow}
use Rattle.hub_tables.specs.declared.rows.ContentRow.{ContentRow}
use Rattle.hub_tables.specs.declared.rows.ReceiptRow.{ReceiptRow}
use Rattle.hub_tables.specs.declared.rows.RememberedRow.{RememberedRow}
use Rattle.hub_tables.specs.declared.rows.MailRow.{MailRow}
use Rattle.hub_store.specs.declared.mail.MailHead.{MailHead}
use Rattle.hub_schema.specs.Cells.{bytes_in, number_in}
use Rattle.hub_schema.specs.Rows.{hub_row_in, key_row_in, prefix_row_in, order_in, line_in, advice_in, pallet_in}
use Rattle.hub_schema.specs.Rows.{content_in, receipt_in, remembered_in, mail_in}

abbrev pub shown_hub : Row → HubRow
shown_hub row = hub_row_in (Null ∷ row)

abbrev pub shown_key : Row → KeyRow
shown_key row = key_row_in (Null ∷ row)

abbrev pub shown_prefix : Row → PrefixRow
shown_prefix row = prefix_row_in (Null ∷ row)

abbrev pub shown_order : Row → OrderRow
shown_order row = order_in (Null ∷ row)

abbrev pub shown_line : Row → LineRow
shown_line row = line_in (Null ∷ row)

abbrev pub shown_advice : Row → AdviceRow
shown_advice row = advice_in (Null ∷ row)

abbrev pub shown_pallet : Row → PalletRow
shown_pallet row = pallet_in (Null ∷ row)

abbrev pub shown_content : Row → ContentRow
shown_content row = content_in (Null ∷ row)

abbrev pub shown_receipt : Row → ReceiptRow
shown_receipt row = receipt_in (Null ∷ row)

abbrev pub shown_remembered : Row → RememberedRow
shown_remembered row = remembered_in (Null ∷ row)

abbrev pub shown_mail : Row → MailRow
shown_mail row = mail_in (Null ∷ row)

-- number, kind and document number of an entry
abbrev pub shown_head : Row → MailHead
shown_head row = record {
  number = number_in (column row 0);
  kind = number_in (column row 1);
  document = bytes_in (column row 2);
}

-- one column of bytes
abbrev pub shown_bytes : Row → List ℕ
shown_bytes row = bytes_in (column row 0)

-- one column of numbers
abbrev pub shown_number : Row → ℕ
shown_number row = number_in (column row 0)

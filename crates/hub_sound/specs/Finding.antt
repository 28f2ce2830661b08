-- The keys of rows, column by column.
use Rattle.std.specs.Prelude.{ℕ, ◌^◌, nat_lt, List, [], ◌∷◌, if◌then◌else◌}
use Rattle.hub_store.specs.Clean.{are_bytes}
use Rattle.hub_tables.specs.declared.rows.HubRow.{HubRow}
use Rattle.hub_tables.specs.declared.rows.KeyRow.{KeyRow}
use Rattle.hub_tables.specs.declared.rows.PrefixRow.{PrefixRow}
use Rattle.hub_tables.specs.declared.rows.OrderRow.{OrderRow}
use Rattle.hub_tables.specs.declared.rows.LineRow.{LineRow}
use Rattle.hub_tables.specs.declared.rows.AdviceRow.{AdviceRow}
use Rattle.hub_tables.specs.declared.rows.PalletRow.{PalletRow}
use Rattle.hub_tables.specs.declared.rows.ContentRow.{ContentRow}
use Rattle.hub_tables.specs.declared.rows.ReceiptRow.{ReceiptRow}
use Rattle.hub_tables.specs.declared.rows.RememberedRow.{RememberedRow}
use Rattle.hub_tables.specs.declared.rows.MailRow.{MailRow}
use Rattle.hub_sound.specs.declared.finding.KeyCell.{KeyCell}
use Rattle.hub_sound.specs.declared.finding.KeyCell.TheVariants.{Bytes, Number, Other}

abbrev pub RowKey : Type 0
RowKey = List KeyCell

-- a text, or what no text is
abbrev pub bytes_cell : List ℕ → KeyCell
bytes_cell bytes = if are_bytes bytes then Bytes bytes else Other

-- a number of 64 bits, or what no such number is
abbrev pub number_cell : ℕ → KeyCell
number_cell n = if nat_lt n (2 ^ 64) then Number n else Other

abbrev pub hub_key : HubRow → RowKey
hub_key row = bytes_cell row.hub ∷ []

abbrev pub supplier_key : KeyRow → RowKey
supplier_key row = bytes_cell row.supplier ∷ []

abbrev pub prefix_key : PrefixRow → RowKey
prefix_key row = bytes_cell row.prefix ∷ []

abbrev pub order_key : OrderRow → RowKey
order_key row = bytes_cell row.supplier ∷ bytes_cell row.number ∷ []

abbrev pub line_key : LineRow → RowKey
line_key row = bytes_cell row.supplier ∷ bytes_cell row.number ∷ number_cell row.line ∷ []

abbrev pub advice_key : AdviceRow → RowKey
advice_key row = bytes_cell row.supplier ∷ bytes_cell row.number ∷ []

abbrev pub pallet_key : PalletRow → RowKey
pallet_key row = bytes_cell row.sscc ∷ []

abbrev pub content_key : ContentRow → RowKey
content_key row = bytes_cell row.sscc ∷ number_cell row.place ∷ []

abbrev pub receipt_key : ReceiptRow → RowKey
receipt_key row = bytes_cell row.sscc ∷ bytes_cell row.gtin ∷ []

abbrev pub remembered_key : RememberedRow → RowKey
remembered_key row =
    bytes_cell row.supplier ∷ number_cell row.side ∷ bytes_cell row.control ∷ bytes_cell row.message ∷ []

abbrev pub mail_key : MailRow → RowKey
mail_key row = bytes_cell row.supplier ∷ number_cell row.number ∷ []

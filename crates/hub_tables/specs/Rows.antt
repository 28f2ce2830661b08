-- Defines how the rows of each of the eleven kinds are ordered by key, and when two rows have the same key.
use Rattle.std.specs.Prelude.{ℕ, ◌==◌, Bool, ◌&&◌, List}
use Rattle.std.specs.Str.{bytes_eq}
use Rattle.std.specs.declared.cmp.Ordering.{Ordering}
use Rattle.std.specs.Ordering.{nat_cmp, ordering_then}
use Rattle.hub_parties.specs.KeyOrder.{bytes_cmp}
use Rattle.hub_tables.specs.declared.rows.HubRow.{HubRow}
use Rattle.hub_tables.specs.declared.rows.KeyRow.{KeyRow}
use Rattle.hub_tables.specs.declared.rows.PrefixRow.{PrefixRow}
use Rattle.hub_tables.specs.declared.rows.OrderRow.{OrderRow}
use Rattle.hub_tables.specs.declared.rows.LineRow.{LineRow}
use Rattle.hub_tables.specs.declared.rows.AdviceRow.{AdviceRow}
use Rattle.hub_tables.specs.declared.rows.PalletRow.{PalletRow}
use Rattle.hub_tables.specs.declared.rows.ContentRow.{ContentRow}
use Rattle.hub_tables.specs.declared.rows.ReceiptRow.{ReceiptRow}
use Rattle.hub_tables.specs.declared.rows.RememberedRow.{RememberedRow}
use Rattle.hub_tables.specs.declared.rows.MailRow.{MailRow}

-- whether two texts are the same
abbrev pub same : List ℕ → List ℕ → Bool
same = bytes_eq

abbrev pub hub_cmp : HubRow → HubRow → Ordering
hub_cmp a b = bytes_cmp a.hub b.hub

abbrev pub key_cmp : KeyRow → KeyRow → Ordering
key_cmp a b = bytes_cmp a.supplier b.supplier

abbrev pub prefix_cmp : PrefixRow → PrefixRow → Ordering
prefix_cmp a b = bytes_cmp a.prefix b.prefix

abbrev pub order_cmp : OrderRow → OrderRow → Ordering
order_cmp a b = ordering_then (bytes_cmp a.supplier b.supplier) (bytes_cmp a.number b.number)

abbrev pub line_cmp : LineRow → LineRow → Ordering
line_cmp a b = ordering_then (bytes_cmp a.supplier b.supplier)
    (ordering_then (bytes_cmp a.number b.number) (nat_cmp a.line b.line))

abbrev pub advice_cmp : AdviceRow → AdviceRow → Ordering
advice_cmp a b = ordering_then (bytes_cmp a.supplier b.supplier) (bytes_cmp a.number b.number)

abbrev pub pallet_cmp : PalletRow → PalletRow → Ordering
pallet_cmp a b = bytes_cmp a.sscc b.sscc

abbrev pub content_cmp : ContentRow → ContentRow → Ordering
content_cmp a b = ordering_then (bytes_cmp a.sscc b.sscc) (nat_cmp a.place b.place)

abbrev pub receipt_cmp : ReceiptRow → ReceiptRow → Ordering
receipt_cmp a b = ordering_then (bytes_cmp a.sscc b.sscc) (bytes_cmp a.gtin b.gtin)

abbrev pub remembered_cmp : RememberedRow → RememberedRow → Ordering
remembered_cmp a b =
    ordering_then (bytes_cmp a.supplier b.supplier)
    (ordering_then (nat_cmp a.side b.side) (ordering_then (bytes_cmp a.control b.control)
    (bytes_cmp a.message b.message)))

abbrev pub mail_cmp : MailRow → MailRow → Ordering
mail_cmp a b = ordering_then (bytes_cmp a.supplier b.supplier) (nat_cmp a.number b.number)

-- whether an old row has the key of a new one, for each kind whose rows can be replaced
abbrev pub same_hub : HubRow → HubRow → Bool
same_hub new old = same old.hub new.hub

abbrev pub same_key : KeyRow → KeyRow → Bool
same_key new old = same old.supplier new.supplier

abbrev pub same_line : LineRow → LineRow → Bool
same_line new old = same old.supplier new.supplier && (same old.number new.number && (old.line == new.line))

abbrev pub same_pallet : PalletRow → PalletRow → Bool
same_pallet new old = same old.sscc new.sscc

abbrev pub same_mail : MailRow → MailRow → Bool
same_mail new old = same old.supplier new.supplier && (old.number == new.number)

-- Defines the form of each row that a hub keeps: identifiers are right, texts and numbers are within their limits, and
-- the number in a column of cases is the number of one.
use Rattle.std.specs.Prelude.{ℕ, ◌+◌, ◌==◌, nat_lt, nat_le, Bool, ◌&&◌, List, length}
use Rattle.std.specs.Prelude.{if◌then◌else◌}
use Rattle.std.specs.List.{list_all, list_any}
use Rattle.edi_base.specs.Limits.{has_length, is_printable, greatest}
use Rattle.hub_tables.specs.EdiSegments.Service.{is_decimal}
use Rattle.hub_tables.specs.EdiEnvelope.Limits.{is_reference}
use Rattle.hub_tables.specs.EdiEnvelope.Mail.{last_number}
use Rattle.edi_moment.specs.Moment.{last_moment}
use Rattle.gs1_ids.specs.Digits.{is_key}
use Rattle.gs1_ids.specs.Gln.{is_gln}
use Rattle.gs1_ids.specs.Prefix.{is_prefix}
use Rattle.hub_parties.specs.Key.{is_party_key}
use Rattle.hub_tables.specs.Cases.{answer_letter, side_letter, kind_letter, arrival_number, truth_number}
use Rattle.hub_tables.specs.Cases.{every_answer, every_side, every_kind, every_arrival, every_truth}
use Rattle.hub_tables.specs.Tables.{Tables}
use Rattle.hub_tables.specs.declared.cases.Side.TheVariants as sides
use Rattle.hub_tables.specs.declared.rows.HubRow.{HubRow}
use Rattle.hub_tables.specs.declared.rows.KeyRow.{KeyRow}
use Rattle.hub_tables.specs.declared.rows.PrefixRow.{PrefixRow}
use Rattle.hub_tables.specs.declared.rows.OrderRow.{OrderRow}
use Rattle.hub_tables.specs.declared.rows.LineRow.{LineRow}
use Rattle.hub_tables.specs.declared.rows.AdviceRow.{AdviceRow}
use Rattle.hub_tables.specs.declared.rows.PalletRow.{PalletRow}
use Rattle.hub_tables.specs.declared.rows.ContentRow.{ContentRow}
use Rattle.hub_tables.specs.declared.rows.ReceiptRow.{ReceiptRow}
use Rattle.hub_tables.specs.declared.rows.RememberedRow.{RememberedRow}
use Rattle.hub_tables.specs.declared.rows.MailRow.{MailRow}
use Rattle.hub_store.specs.declared.mail.MailHead.{MailHead}

-- Values.

abbrev pub is_within : ℕ → ℕ → ℕ → Bool
is_within low high n = nat_le low n && nat_le n high

-- each is a byte
abbrev pub are_bytes : List ℕ → Bool
are_bytes = list_all (λ byte. nat_lt byte 256)

-- the number of a document: 1 to 35 bytes of 0x20 to 0x7E
abbrev pub is_number : List ℕ → Bool
is_number bytes = has_length 1 35 bytes && list_all is_printable bytes

-- the number of a line of an order
abbrev pub is_line : ℕ → Bool
is_line = is_within 1 999_999

abbrev pub is_quantity : ℕ → Bool
is_quantity = is_within 1 greatest

abbrev pub is_answer : ℕ → Bool
is_answer n = list_any (λ answer. n == answer_letter answer) every_answer

abbrev pub is_side : ℕ → Bool
is_side n = list_any (λ side. n == side_letter side) every_side

abbrev pub is_kind : ℕ → Bool
is_kind n = list_any (λ kind. n == kind_letter kind) every_kind

abbrev pub is_arrival : ℕ → Bool
is_arrival n = list_any (λ arrival. n == arrival_number arrival) every_arrival

abbrev pub is_truth : ℕ → Bool
is_truth n = list_any (λ truth. n == truth_number truth) every_truth

-- a message reference; a cancellation has none
abbrev pub is_message : ℕ → List ℕ → Bool
is_message side bytes = if side == side_letter sides.Cancellation then length bytes == 0 else is_reference bytes

-- Rows.

abbrev pub clean_hub : HubRow → Bool
clean_hub row = is_gln row.hub && (is_gln row.retailer && is_party_key row.key)

abbrev pub clean_key : KeyRow → Bool
clean_key row = is_gln row.supplier && is_party_key row.key

abbrev pub clean_prefix : PrefixRow → Bool
clean_prefix row = is_prefix row.prefix && is_gln row.supplier

abbrev pub clean_order : OrderRow → Bool
clean_order row = is_gln row.supplier && is_number row.number

-- no more is open, refused and cancelled than is ordered
abbrev pub clean_line : LineRow → Bool
clean_line row =
    is_gln row.supplier && (is_number row.number && (is_line row.line && (is_key 14 row.gtin
    && (is_quantity row.ordered
    && (nat_le (row.open_qty + row.refused + row.cancelled) row.ordered && is_answer row.answer)))))

abbrev pub clean_advice : AdviceRow → Bool
clean_advice row = is_gln row.supplier && is_number row.number

abbrev pub clean_pallet : PalletRow → Bool
clean_pallet row = is_key 18 row.sscc && (is_gln row.supplier && (is_number row.advice && is_arrival row.received))

abbrev pub clean_content : ContentRow → Bool
clean_content row =
    is_key 18 row.sscc && (is_within 1 999_999 row.place && (is_number row.number
    && (is_line row.line && is_quantity row.quantity)))

abbrev pub clean_receipt : ReceiptRow → Bool
clean_receipt row =
    is_key 18 row.sscc && (is_key 14 row.gtin && (nat_le row.accepted greatest
    && (nat_le row.returned greatest && nat_le row.destroyed greatest)))

abbrev pub clean_remembered : RememberedRow → Bool
clean_remembered row =
    is_gln row.supplier && (is_side row.side && (is_reference row.control
    && (is_message row.side row.message && are_bytes row.content)))

abbrev pub clean_mail : MailRow → Bool
clean_mail row =
    is_gln row.supplier && (is_within 1 last_number row.number && (nat_le row.moment last_moment
    && (is_decimal row.decimal
    && (is_kind row.kind && (is_number row.document && (are_bytes row.body && is_truth row.taken))))))

-- what a list shows of an entry
abbrev pub clean_head : MailHead → Bool
clean_head head = is_within 1 last_number head.number && (is_kind head.kind && is_number head.document)

-- each row has the form of its kind
abbrev pub are_clean : Tables → Bool
are_clean t =
    list_all clean_hub t.hubs && (list_all clean_key t.keys && (list_all clean_prefix t.prefixes
    && (list_all clean_order t.orders && (list_all clean_line t.lines && (list_all clean_advice t.advices
    && (list_all clean_pallet t.pallets && (list_all clean_content t.contents && (list_all clean_receipt t.receipts
    && (list_all clean_remembered t.remembered && list_all clean_mail t.mail)))))))))

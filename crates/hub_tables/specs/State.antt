-- Defines what can be looked up in a supplier's rows.
use Rattle.std.specs.Prelude.{ℕ, ◌+◌, ◌==◌, nat_lt, Bool, true, not, ◌&&◌, List, [], ◌∷◌, filter, find, sum_by, length}
use Rattle.std.specs.Prelude.{Option, Some, None, option_map}
use Rattle.std.specs.List.{list_any, last_or}
use Rattle.std.specs.Option.{unwrap_or}
use Rattle.hub_tables.specs.Cases.{answer_letter, side_letter, arrival_number, truth_number}
use Rattle.hub_tables.specs.Rows.{same}
use Rattle.hub_tables.specs.Tables.{Tables}
use Rattle.hub_tables.specs.declared.cases.LineState.TheVariants.{Waiting}
use Rattle.hub_tables.specs.declared.cases.Arrival.TheVariants.{Announced, Replaced}
use Rattle.hub_tables.specs.declared.cases.Side.{Side}
use Rattle.hub_tables.specs.declared.rows.LineRow.{LineRow}
use Rattle.hub_tables.specs.declared.rows.ContentRow.{ContentRow}
use Rattle.hub_tables.specs.declared.rows.PalletRow.{PalletRow}
use Rattle.hub_tables.specs.declared.rows.ReceiptRow.{ReceiptRow}
use Rattle.hub_tables.specs.declared.rows.RememberedRow.{RememberedRow}
use Rattle.hub_tables.specs.declared.rows.MailRow.{MailRow}

abbrev pub knows_order : Tables → List ℕ → Bool
knows_order state number = list_any (λ order. same order.number number) state.orders

abbrev pub knows_advice : Tables → List ℕ → Bool
knows_advice state number = list_any (λ advice. same advice.number number) state.advices

-- the lines of an order
abbrev pub lines_of : Tables → List ℕ → List LineRow
lines_of state order = filter (λ line. same line.number order) state.lines

-- the only element, or `None` if there are none or several
abbrev pub the_only : {X : Type 0} → List X → Option X
the_only [] = None
the_only (x ∷ []) = Some x
the_only (x ∷ y ∷ xs) = None

-- among the lines of an order: the line with this number, or the only line of the article if no number is given
abbrev pub line_among : List LineRow → Option ℕ → List ℕ → Option LineRow
line_among lines (Some number) gtin = find (λ line. line.line == number) lines
line_among lines None gtin = the_only (filter (λ line. same line.gtin gtin) lines)

abbrev pub line_of : Tables → List ℕ → Option ℕ → List ℕ → Option LineRow
line_of state order = line_among (lines_of state order)

-- whether the content belongs to the line
abbrev pub names : LineRow → ContentRow → Bool
names line content = same content.number line.number && (content.line == line.line)

-- the quantity of a line that was despatched
abbrev pub despatched : Tables → LineRow → ℕ
despatched state line = sum_by (λ content. content.quantity) (filter (names line) state.contents)

-- whether the line still waits for an answer
abbrev pub waits : LineRow → Bool
waits line = line.answer == answer_letter Waiting

abbrev pub pallet_of : Tables → List ℕ → Option PalletRow
pallet_of state sscc = find (λ pallet. same pallet.sscc sscc) state.pallets

-- whether the pallet has not been received yet
abbrev pub is_announced : PalletRow → Bool
is_announced pallet = pallet.received == arrival_number Announced

-- whether the pallet was received by an advice that replaces earlier ones
abbrev pub is_replaced : PalletRow → Bool
is_replaced pallet = pallet.received == arrival_number Replaced

-- the contents of a pallet, and its receipts
abbrev pub contents_of : Tables → List ℕ → List ContentRow
contents_of state sscc = filter (λ content. same content.sscc sscc) state.contents

abbrev pub receipts_of : Tables → List ℕ → List ReceiptRow
receipts_of state sscc = filter (λ receipt. same receipt.sscc sscc) state.receipts

-- the mailbox entry with this number
abbrev pub entry_at : Tables → ℕ → Option MailRow
entry_at state number = find (λ entry. entry.number == number) state.mail

abbrev pub is_taken : MailRow → Bool
is_taken entry = entry.taken == truth_number true

-- the entries above a number that have not been taken
abbrev pub untaken_after : Tables → ℕ → List MailRow
untaken_after state number = filter (λ entry. nat_lt number entry.number && not (is_taken entry)) state.mail

-- the number of the last entry, or 0 if there is none
abbrev pub last_mail : Tables → ℕ
last_mail state = unwrap_or (option_map (λ entry. entry.number) (last_or None state.mail)) 0

-- the number of the next entry of the mailbox
abbrev pub next_mail : Tables → ℕ
next_mail state = length state.mail + 1

-- what is remembered for a side under these two references
abbrev pub remembered_of : Tables → Side → List ℕ → List ℕ → Option RememberedRow
remembered_of state side control message =
    find (λ row. (row.side == side_letter side)
    && (same row.control control && same row.message message)) state.remembered

-- the content of what is remembered
abbrev pub remembered_content : Tables → Side → List ℕ → List ℕ → Option (List ℕ)
remembered_content state side control message =
    option_map (λ row. row.content) (remembered_of state side control message)

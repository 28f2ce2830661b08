-- Defines the orders that a message names, with their lines, while the message is checked.
use Rattle.std.specs.Prelude.{ℕ, ◌+◌, ◌≤◌, ◌==◌, Bool, false, List, [], map, filter, find, if◌then◌else◌, Option, Some, None, option_map}
use Rattle.std.specs.Option.{unwrap_or}
use Rattle.std.specs.declared.cmp.Ordering.{Ordering}
use Rattle.std.specs.Ordering.{nat_cmp, ordering_then}
use Rattle.hub_parties.specs.KeyOrder.{bytes_cmp}
use Rattle.hub_tables.specs.Rows.{same, same_line}
use Rattle.hub_tables.specs.State.{the_only}
use Rattle.hub_tables.specs.declared.rows.LineRow.{LineRow}
use Rattle.hub_order_lines.specs.declared.facts.LineFacts.{LineFacts}

-- compares rows of lines by order number, then line number
abbrev pub place_cmp : LineRow → LineRow → Ordering
place_cmp a b = ordering_then (bytes_cmp a.number b.number) (nat_cmp a.line b.line)

-- compares lines by order number, then line number
abbrev pub facts_cmp : LineFacts → LineFacts → Ordering
facts_cmp a b = place_cmp a.row b.row

-- the rows of lines
abbrev pub rows : List LineFacts → List LineRow
rows lines = map (λ line. line.row) lines

-- the lines of an order
abbrev pub facts_of : List LineFacts → List ℕ → List LineFacts
facts_of lines order = filter (λ line. same line.row.number order) lines

-- the line with this number, or the only line of the article if no number is given
abbrev pub facts_among : List LineFacts → Option ℕ → List ℕ → Option LineFacts
facts_among lines (Some number) gtin = find (λ line. line.row.line == number) lines
facts_among lines None gtin = the_only (filter (λ line. same line.row.gtin gtin) lines)

-- the orders known so far: for each its number, whether the supplier has it, and its lines
abbrev pub Orders : Type 0
Orders = List (List ℕ × (Bool × List LineFacts))

-- what is known of an order
abbrev pub order_in : Orders → List ℕ → Option (Bool × List LineFacts)
order_in orders order = option_map (λ known. known.1) (find (λ known. same order known.0) orders)

-- whether the supplier has the order; false if the order is not known
abbrev pub has_order : Orders → List ℕ → Bool
has_order orders order = unwrap_or (option_map (λ known. known.0) (order_in orders order)) false

-- the lines known of an order; none if the order is not known
abbrev pub lines_in : Orders → List ℕ → List LineFacts
lines_in orders order = unwrap_or (option_map (λ known. known.1) (order_in orders order)) []

-- applies the function to each line of each order
abbrev pub each_line : (LineFacts → LineFacts) → Orders → Orders
each_line make orders = map (λ known. (known.0, (known.1.0, map make known.1.1))) orders

-- the line with `row` in place of its own row, if the two have the same key
abbrev pub set_row : LineRow → LineFacts → LineFacts
set_row row line = if same_line row line.row then record line { row = row } else line

-- the orders with `row` in place of the row that has its key
abbrev pub with_row : LineRow → Orders → Orders
with_row row orders = each_line (set_row row) orders

-- the row with these quantities and this answer
abbrev pub answered_row : LineRow → ℕ → ℕ → ℕ → ℕ → LineRow
answered_row row open_qty refused cancelled answer =
    record row { open_qty = open_qty; refused = refused; cancelled = cancelled; answer = answer }

-- the open, refused and cancelled quantities of a line add up to no more than the ordered one
abbrev pub IsCovered : LineFacts → Type 0
IsCovered line = line.row.open_qty + line.row.refused + line.row.cancelled ≤ line.row.ordered

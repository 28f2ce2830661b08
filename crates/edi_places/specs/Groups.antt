-- The first line group of which a condition does not hold, and the segment in it that shows this.
use Rattle.std.specs.Prelude.{ℕ, ◌+◌, Bool, true, false, not, ◌&&◌, nat_lt, if◌then◌else◌, List, [], ◌∷◌, drop, length, is_some, codes}
use Rattle.std.specs.Prelude.{Option, Some, None}
use Rattle.std.specs.Option.{unwrap_or}
use Rattle.edi_segments.specs.declared.segment.Segment.{Segment}
use Rattle.edi_messages.specs.Parts.{is_lin, group_of, is_qualified, has_qualified}
use Rattle.edi_messages.specs.Lines.{is_line}
use Rattle.edi_orders.specs.Order.{ordered}
use Rattle.edi_orders.specs.Response.{action, line_answer, has_no_reference_or_one_to}
use Rattle.edi_goods.specs.Despatch.{despatched, has_reference_or_inherits}
use Rattle.edi_goods.specs.Receipt.{is_once_or_none, is_received}
use Rattle.edi_places.specs.Counting.{once_place}
use Rattle.edi_places.specs.declared.groups.Condition.{Condition}
use Rattle.edi_places.specs.declared.groups.Condition.TheVariants as condition

-- whether a condition holds of a line group, where the header names this order
abbrev pub holds : Condition → List ℕ → List Segment → Bool
holds condition.Line order group = is_line group
holds condition.Action order group = is_line group && is_some (action group)
holds condition.Ordered order group = is_some (ordered group)
holds condition.Answered order group = is_some (line_answer group)
holds condition.SameOrder order group = has_no_reference_or_one_to (Some order) group
holds condition.Despatched order group = is_some (despatched group)
holds condition.ReferenceOrNone order group = has_reference_or_inherits true group
holds condition.Reference order group = has_reference_or_inherits false group
holds condition.Received order group = is_received group

-- of a kind that has to come once in a line group: the second, or else the only one, or else LIN
abbrev pub quantity_place : List ℕ → List Segment → ℕ
quantity_place kind group = once_place (is_qualified (codes "QTY") kind) 1 group

-- the quantity of a line that is changed
abbrev pub changed_place : List Segment → ℕ
changed_place group =
    if has_qualified (codes "QTY") (codes "113") group then quantity_place (codes "113") group else quantity_place (codes "21") group

-- the quantity of the first kind that is wrong, in the order of the kinds; LIN if there is none of them
abbrev pub received_place : List Segment → ℕ
received_place group =
    if not (is_once_or_none (codes "194") group) then quantity_place (codes "194") group
    else if not (is_once_or_none (codes "195") group) then quantity_place (codes "195") group
    else quantity_place (codes "196") group

-- the segment of a line group that shows that a condition does not hold
abbrev pub place_in_group : Condition → List Segment → ℕ
place_in_group condition.Line group = 1
place_in_group condition.Action group = 1
place_in_group condition.Ordered group = quantity_place (codes "21") group
place_in_group condition.Answered group = changed_place group
place_in_group condition.Despatched group = quantity_place (codes "12") group
place_in_group condition.Received group = received_place group
place_in_group _ group = once_place (is_qualified (codes "RFF") (codes "ON")) 1 group

-- how many segments come before the first line group of which the condition does not hold
abbrev pub before_wrong : Condition → List ℕ → List Segment → ℕ
before_wrong condition order [] = 0
before_wrong condition order (segment ∷ rest) =
    if is_lin segment && not (holds condition order (group_of (segment ∷ rest))) then 0 else 1 + before_wrong condition order rest

-- the segment that shows it in the line group that begins after this many segments, if a segment follows them
abbrev pub place_at : Condition → ℕ → List Segment → Option ℕ
place_at condition index message =
    if nat_lt index (length message) then Some (index + place_in_group condition (group_of (drop index message))) else None

-- of the first such line group that comes after this many segments
abbrev pub group_place : Condition → List ℕ → ℕ → List Segment → Option ℕ
group_place condition order from message = place_at condition (from + before_wrong condition order (drop from message)) message

-- the last segment if the condition holds of each line group
abbrev pub group_place_or_last : Condition → List ℕ → ℕ → List Segment → ℕ
group_place_or_last condition order from message = unwrap_or (group_place condition order from message) (length message)

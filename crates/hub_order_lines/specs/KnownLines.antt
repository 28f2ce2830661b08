-- Defines when the despatched quantities of order lines follow from their rows alone.
use Rattle.std.specs.Prelude.{◌≡◌, ◌⊎◌, ◌+◌, nat_le, Bool, true, false, ◌&&◌, List, [], ◌∷◌, Option, Some, None}
use Rattle.std.specs.List.{AllByRecursion, list_all}
use Rattle.std.specs.Ordering.{is_lt}
use Rattle.hub_parties.specs.KeyOrder.{Rises}
use Rattle.hub_tables.specs.declared.rows.LineRow.{LineRow}
use Rattle.hub_order_lines.specs.Book.{facts_cmp, place_cmp}
use Rattle.hub_order_lines.specs.declared.facts.LineFacts.{LineFacts}

-- the ordered quantity is the sum of what is open, refused, cancelled and despatched
abbrev pub AddsUp : LineFacts → Type 0
AddsUp line = line.row.ordered ≡ line.row.open_qty + line.row.refused + line.row.cancelled + line.despatched

-- lines that rise by order number and line number, and each of which adds up
pub record AreKnown (lines : List LineFacts) : Type 0 where
  pub rise : Rises facts_cmp lines
  pub adds_up : AllByRecursion AddsUp lines

-- the open, refused and cancelled quantities add up to no more than the ordered one
abbrev pub is_covered : LineRow → Bool
is_covered line = nat_le (line.open_qty + line.refused + line.cancelled) line.ordered

-- whether each line comes before the next, by order number and line number, and the first after `before` if given
abbrev pub steps_up : Option LineRow → List LineRow → Bool
steps_up before [] = true
steps_up None (line ∷ lines) = steps_up (Some line) lines
steps_up (Some before) (line ∷ lines) = is_lt (place_cmp before line) && steps_up (Some line) lines

-- nothing can be known of these lines: they do not rise, or some line is not covered
abbrev pub AreUnclean : List LineRow → Type 0
AreUnclean lines = (steps_up None lines ≡ false) ⊎ (list_all is_covered lines ≡ false)

use Rattle.std.proofs.Common.{◌≡◌, ◌++◌}
use Rattle.std.specs.List.{AllByRecursion}
use Rattle.hub_order_lines.specs.Book.{rows}
use Rattle.hub_order_lines.specs.KnownLines.{AddsUp}
use Rattle.hub_order_lines.proofs.known_lines.facts_of_each.Given as goal

abbrev pub invariant-loop-row : goal.invariant-loop-row
invariant-loop-row l = record {
  rows : rows l.facts ++ l.row-iterator.rest.items ≡ l.fn.lines;
  adds_up : AllByRecursion AddsUp l.facts;
}

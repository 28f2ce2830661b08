use Rattle.std.proofs.Common.{◌≡◌, ◌++◌, drop, map}
use Rattle.hub_rules.specs.OrderRules.{new_line}
use Rattle.hub_judges.proofs.order.add_lines.Given as goal

abbrev pub invariant-loop-line : goal.invariant-loop-line
invariant-loop-line l =
    l.initial.changes ++ map (new_line l.supplier l.order.number) l.order.lines
    ≡ l.changes ++ map (new_line l.supplier l.order.number) (drop l.line-index l.order.lines)

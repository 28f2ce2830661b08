use Rattle.std.proofs.Common.{drop}
use Rattle.std.specs.List.{AllByRecursion}
use Rattle.hub_naming.specs.Lines.{LinesOfOrders, NamesLines, NamesMore}
use Rattle.hub_naming.proofs.lines.lines_named.Given as goal

-- if the units so far and the remaining ones are named in the end, all units are
abbrev pub invariant-loop-unit : goal.invariant-loop-unit
invariant-loop-unit l = (later : LinesOfOrders) → NamesMore l.named.entries later
    → AllByRecursion (λ unit. NamesLines later unit.lines) (drop l.unit-index l.units)
    → AllByRecursion (λ unit. NamesLines later unit.lines) l.units

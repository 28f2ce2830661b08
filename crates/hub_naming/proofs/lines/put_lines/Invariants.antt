use Rattle.std.proofs.Common.{drop}
use Rattle.hub_naming.specs.Lines.{LinesOfOrders, NamesLines, NamesMore}
use Rattle.hub_naming.proofs.lines.put_lines.Given as goal

-- if the lines so far and the remaining ones are named in the end, all lines are
abbrev pub invariant-loop-line : goal.invariant-loop-line
invariant-loop-line l = record {
  named : (later : LinesOfOrders) → NamesMore l.named.entries later → NamesLines later (drop l.line-index l.lines)
      → NamesLines later l.lines;
  more : NamesMore l.fn.named.entries l.named.entries;
}

use Rattle.std.proofs.Common.{◌≡◌, ◌++◌, map, drop}
use Rattle.edi_messages.specs.Parts.{line_groups}
use Rattle.edi_goods.specs.Despatch.{lines_in_unit, line_of}
use Rattle.edi_goods.proofs.announced.lines_in_unit.Given as goal

-- the lines are those so far and those of the rest
abbrev pub invariant-loop-line : goal.invariant-loop-line
invariant-loop-line l =
    lines_in_unit l.header_order l.unit ≡ l.lines ++ map (line_of l.header_order) (drop l.line-index (line_groups l.unit))

use Rattle.std.proofs.Common.{◌≡◌, ◌++◌, drop}
use Rattle.std.specs.List.{flat_map}
use Rattle.edi_show.specs.Goods.{despatch_line}
use Rattle.edi_show.proofs.goods.put_unit_lines.Given as goal

abbrev pub invariant-loop-line : goal.invariant-loop-line
invariant-loop-line l = l.out.items ++ flat_map despatch_line (drop l.line-index l.lines) ≡ l.fn.out.items ++ flat_map despatch_line l.lines

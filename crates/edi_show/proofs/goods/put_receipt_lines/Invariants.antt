use Rattle.std.proofs.Common.{◌≡◌, ◌++◌, drop}
use Rattle.std.specs.List.{flat_map}
use Rattle.edi_show.specs.Goods.{receipt_line}
use Rattle.edi_show.proofs.goods.put_receipt_lines.Given as goal

abbrev pub invariant-loop-line : goal.invariant-loop-line
invariant-loop-line l = l.out.items ++ flat_map receipt_line (drop l.line-index l.lines) ≡ l.fn.out.items ++ flat_map receipt_line l.lines

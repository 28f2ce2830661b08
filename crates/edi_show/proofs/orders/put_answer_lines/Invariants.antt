use Rattle.std.proofs.Common.{◌≡◌, ◌++◌, drop}
use Rattle.std.specs.List.{flat_map}
use Rattle.edi_show.specs.Orders.{answer_line}
use Rattle.edi_show.proofs.orders.put_answer_lines.Given as goal

abbrev pub invariant-loop-line : goal.invariant-loop-line
invariant-loop-line l = l.out.items ++ flat_map answer_line (drop l.line-index l.lines) ≡ l.fn.out.items ++ flat_map answer_line l.lines

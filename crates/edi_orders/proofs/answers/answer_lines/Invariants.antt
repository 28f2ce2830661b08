use Rattle.std.proofs.Common.{◌≡◌, ◌++◌, map, drop, Some}
use Rattle.std.specs.List.{list_all}
use Rattle.edi_orders.specs.Response.{line_of, has_no_reference_or_one_to}
use Rattle.edi_orders.proofs.answers.answer_lines.Given as goal

-- the lines are those so far, which name the order or none, and those of the rest
abbrev pub invariant-loop-line : goal.invariant-loop-line
invariant-loop-line l = record {
  lines : map line_of l.items ≡ l.lines ++ map line_of (drop l.line-index l.items);
  right : list_all (has_no_reference_or_one_to (Some l.order)) l.items
      ≡ list_all (has_no_reference_or_one_to (Some l.order)) (drop l.line-index l.items);
}

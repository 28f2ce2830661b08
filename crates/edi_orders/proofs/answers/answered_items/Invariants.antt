use Rattle.std.proofs.Common.{◌≡◌, ◌++◌, drop, is_some}
use Rattle.std.specs.List.{list_all}
use Rattle.edi_orders.specs.Response.{line_answer}
use Rattle.edi_orders.proofs.answers.answered_items.Given as goal

-- the groups are those so far, which have their answers, and those of the rest
abbrev pub invariant-loop-line : goal.invariant-loop-line
invariant-loop-line l = record {
  groups : l.items ≡ l.answered.items ++ drop l.line-index l.items;
  right : list_all (λ group. is_some (line_answer group)) l.items
      ≡ list_all (λ group. is_some (line_answer group)) (drop l.line-index l.items);
}

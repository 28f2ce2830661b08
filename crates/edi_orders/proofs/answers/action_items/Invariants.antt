use Rattle.std.proofs.Common.{◌≡◌, ◌++◌, drop, is_some}
use Rattle.std.specs.List.{list_all}
use Rattle.edi_orders.specs.Response.{action}
use Rattle.edi_orders.proofs.answers.action_items.Given as goal

-- the groups are those so far, which have their actions, and those of the rest
abbrev pub invariant-loop-item : goal.invariant-loop-item
invariant-loop-item l = record {
  groups : l.items ≡ l.lines.items ++ drop l.item-index l.items;
  right : list_all (λ group. is_some (action group)) l.items ≡ list_all (λ group. is_some (action group)) (drop l.item-index l.items);
}

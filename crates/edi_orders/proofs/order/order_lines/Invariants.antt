use Rattle.std.proofs.Common.{◌≡◌, ◌++◌, map, drop, is_some}
use Rattle.std.specs.List.{list_all}
use Rattle.edi_orders.specs.Order.{line_of, ordered}
use Rattle.edi_orders.proofs.order.order_lines.Given as goal

-- the lines are those so far, which have their quantities, and those of the rest
abbrev pub invariant-loop-item : goal.invariant-loop-item
invariant-loop-item l = record {
  lines : map line_of l.items ≡ l.lines ++ map line_of (drop l.item-index l.items);
  right : list_all (λ group. is_some (ordered group)) l.items ≡ list_all (λ group. is_some (ordered group)) (drop l.item-index l.items);
}

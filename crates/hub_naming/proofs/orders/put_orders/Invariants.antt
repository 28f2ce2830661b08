use Rattle.std.proofs.Common.{◌≡◌, ◌||◌, ℕ, List, map, drop}
use Rattle.std.specs.List.{list_any}
use Rattle.std.specs.BTreeSet.{IsOrdered}
use Rattle.edi_base.specs.Seen.{is_among}
use Rattle.hub_naming.specs.Orders.{by_number}
use Rattle.hub_tables.specs.Rows.{same}
use Rattle.hub_naming.proofs.orders.put_orders.Given as goal

-- an order is in the set, or the remaining lines name it
abbrev pub invariant-loop-line : goal.invariant-loop-line
invariant-loop-line l = record {
  orders : (order : List ℕ) →
      (is_among order (map (λ number. number.now) l.orders.keys) || list_any (λ line. same line.order order) (drop l.line-index l.lines))
      ≡ (is_among order (map (λ number. number.now) l.fn.orders.keys) || list_any (λ line. same line.order order) l.lines);
  ordered : IsOrdered by_number l.fn.orders → IsOrdered by_number l.orders;
}

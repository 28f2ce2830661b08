use Rattle.std.proofs.Common.{◌≡◌, ◌||◌, ℕ, List, map, drop}
use Rattle.std.specs.BTreeSet.{IsOrdered}
use Rattle.edi_base.specs.Seen.{is_among}
use Rattle.hub_naming.specs.Orders.{by_number}
use Rattle.hub_judges.specs.Known.{names_order}
use Rattle.hub_naming.proofs.orders.orders_named.Given as goal

-- an order is in the set, or the remaining units name it
abbrev pub invariant-loop-unit : goal.invariant-loop-unit
invariant-loop-unit l = record {
  orders : (order : List ℕ)
      → (is_among order (map (λ number. number.now) l.orders.keys) || names_order (drop l.unit-index l.units) order)
      ≡ names_order l.units order;
  ordered : IsOrdered by_number l.orders;
}

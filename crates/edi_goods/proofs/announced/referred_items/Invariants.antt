use Rattle.std.proofs.Common.{◌≡◌, ◌++◌, drop}
use Rattle.std.specs.List.{list_all}
use Rattle.edi_goods.specs.Despatch.{has_reference_or_inherits}
use Rattle.edi_goods.proofs.announced.referred_items.Given as goal

-- the groups are those so far, which name an order, and those of the rest
abbrev pub invariant-loop-item : goal.invariant-loop-item
invariant-loop-item l = record {
  groups : l.items ≡ l.lines.items ++ drop l.item-index l.items;
  right : list_all (has_reference_or_inherits l.inherited) l.items
      ≡ list_all (has_reference_or_inherits l.inherited) (drop l.item-index l.items);
}

use Rattle.std.proofs.Common.{◌≡◌, ◌++◌, drop, is_some}
use Rattle.std.specs.List.{list_all}
use Rattle.edi_goods.specs.Despatch.{despatched}
use Rattle.edi_goods.proofs.announced.despatch_items.Given as goal

-- the groups are those so far, which have their quantities, and those of the rest
abbrev pub invariant-loop-item : goal.invariant-loop-item
invariant-loop-item l = record {
  groups : l.items ≡ l.lines.items ++ drop l.item-index l.items;
  right : list_all (λ group. is_some (despatched group)) l.items
      ≡ list_all (λ group. is_some (despatched group)) (drop l.item-index l.items);
}

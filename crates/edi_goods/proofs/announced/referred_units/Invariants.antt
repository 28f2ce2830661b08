use Rattle.std.proofs.Common.{◌≡◌, ◌++◌, drop}
use Rattle.std.specs.List.{list_all}
use Rattle.edi_goods.specs.Despatch.{has_references}
use Rattle.edi_goods.proofs.announced.referred_units.Given as goal

-- the units are those so far, whose lines name an order, and those of the rest
abbrev pub invariant-loop-lined : goal.invariant-loop-lined
invariant-loop-lined l = record {
  groups : l.units ≡ l.referred.items ++ drop l.lined-index l.units;
  right : list_all (has_references l.inherited) l.units ≡ list_all (has_references l.inherited) (drop l.lined-index l.units);
}

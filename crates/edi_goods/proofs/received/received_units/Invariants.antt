use Rattle.std.proofs.Common.{◌≡◌, ◌++◌, drop}
use Rattle.std.specs.List.{list_all}
use Rattle.edi_goods.specs.Receipt.{has_quantities}
use Rattle.edi_goods.proofs.received.received_units.Given as goal

-- the units are those so far, whose lines have quantities, and those of the rest
abbrev pub invariant-loop-unit : goal.invariant-loop-unit
invariant-loop-unit l = record {
  groups : l.units ≡ l.received.items ++ drop l.unit-index l.units;
  right : list_all has_quantities l.units ≡ list_all has_quantities (drop l.unit-index l.units);
}

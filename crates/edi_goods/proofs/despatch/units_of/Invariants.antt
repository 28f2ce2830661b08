use Rattle.std.proofs.Common.{◌≡◌, ◌++◌, map, drop}
use Rattle.edi_goods.specs.Despatch.{unit_from}
use Rattle.edi_goods.proofs.despatch.units_of.Given as goal

-- the units are those so far and those of the rest
abbrev pub invariant-loop-index : goal.invariant-loop-index
invariant-loop-index l = map (unit_from l.header_order) l.units ≡ l.read ++ map (unit_from l.header_order) (drop l.index l.units)

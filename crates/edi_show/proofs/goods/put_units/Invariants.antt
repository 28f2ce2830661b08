use Rattle.std.proofs.Common.{◌≡◌, ◌++◌, drop}
use Rattle.std.specs.List.{flat_map}
use Rattle.edi_show.specs.Goods.{unit_lines}
use Rattle.edi_show.proofs.goods.put_units.Given as goal

abbrev pub invariant-loop-unit : goal.invariant-loop-unit
invariant-loop-unit l = l.out.items ++ flat_map unit_lines (drop l.unit-index l.units) ≡ l.fn.out.items ++ flat_map unit_lines l.units

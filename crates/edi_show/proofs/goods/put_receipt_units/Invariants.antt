use Rattle.std.proofs.Common.{◌≡◌, ◌++◌, drop}
use Rattle.std.specs.List.{flat_map}
use Rattle.edi_show.specs.Goods.{receipt_unit_lines}
use Rattle.edi_show.proofs.goods.put_receipt_units.Given as goal

abbrev pub invariant-loop-unit : goal.invariant-loop-unit
invariant-loop-unit l =
    l.out.items ++ flat_map receipt_unit_lines (drop l.unit-index l.units)
    ≡ l.fn.out.items ++ flat_map receipt_unit_lines l.units

use Rattle.std.proofs.Common.{◌≡◌, ◌++◌, drop}
use Rattle.std.specs.List.{list_all}
use Rattle.edi_goods.specs.Units.{read_units, has_lines}
use Rattle.edi_goods.proofs.units.item_units.Given as goal

-- the units are those so far, whose lines are valid, and those of the rest
abbrev pub invariant-loop-index : goal.invariant-loop-index
invariant-loop-index l = record {
  units : read_units l.message ≡ l.units.items ++ read_units (drop l.index l.message);
  right : list_all has_lines (read_units l.message) ≡ list_all has_lines (read_units (drop l.index l.message));
}

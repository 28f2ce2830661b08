use Rattle.std.proofs.Common.{◌≡◌, ◌++◌, map, drop}
use Rattle.std.specs.List.{list_all}
use Rattle.edi_goods.specs.Units.{sscc_or_none, is_unit}
use Rattle.edi_goods.proofs.units.unit_ssccs.Given as goal

-- the SSCC are those so far, of valid units, and those of the rest
abbrev pub invariant-loop-unit : goal.invariant-loop-unit
invariant-loop-unit l = record {
  ssccs : map sscc_or_none l.units ≡ l.ssccs.items ++ map sscc_or_none (drop l.unit-index l.units);
  right : list_all is_unit l.units ≡ list_all is_unit (drop l.unit-index l.units);
}

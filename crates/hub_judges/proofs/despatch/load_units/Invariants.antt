use Rattle.std.proofs.Common.{◌≡◌}
use Rattle.std.specs.Iterator.Adapters.{zip_first, zip_second}
use Rattle.std.specs.Slice.Iter.{iter_rest}
use Rattle.edi_base.specs.Seen.{is_among}
use Rattle.hub_rules.specs.Judging.{joined}
use Rattle.hub_judges.specs.FromFacts.{no_sscc, units_from}
use Rattle.hub_judges.proofs.despatch.load_units.Given as goal

-- the remaining units, on what the earlier ones left
abbrev pub invariant-loop-unit : goal.invariant-loop-unit
invariant-loop-unit l =
    joined l.initial.changes (units_from l.row l.despatch.number no_sscc l.despatch.units l.used l.initial.book)
    ≡ joined l.changes (units_from l.row l.despatch.number (λ sscc. is_among sscc l.seen)
    (iter_rest (zip_first l.unit-iterator)) (iter_rest (zip_second l.unit-iterator)) l.book)

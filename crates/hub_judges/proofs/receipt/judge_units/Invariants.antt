use Rattle.std.proofs.Common.{◌≡◌}
use Rattle.std.specs.Iterator.Adapters.{zip_first, zip_second}
use Rattle.std.specs.List.{AllByRecursion}
use Rattle.std.specs.Slice.Iter.{iter_rest}
use Rattle.edi_base.specs.Seen.{is_among}
use Rattle.hub_rules.specs.Judging.{joined}
use Rattle.hub_judges.specs.FromFacts.{no_sscc, receipts_from}
use Rattle.hub_judges.specs.Totals.{RowsHold}
use Rattle.hub_judges.proofs.receipt.judge_units.Given as goal

-- the changes so far, then those of the remaining units, whose totals fit a row
abbrev pub invariant-loop-unit : goal.invariant-loop-unit
invariant-loop-unit l = record {
  changes : joined l.initial.changes (receipts_from l.replaces no_sscc l.units l.pallets)
      ≡ joined l.changes (receipts_from l.replaces (λ sscc. is_among sscc l.seen)
      (iter_rest (zip_first l.unit-iterator)) (iter_rest (zip_second l.unit-iterator)));
  hold : AllByRecursion (λ unit. RowsHold unit.lines) (iter_rest (zip_first l.unit-iterator));
}

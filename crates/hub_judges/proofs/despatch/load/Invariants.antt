use Rattle.std.proofs.Common.{◌≡◌, drop}
use Rattle.hub_order_lines.specs.Book.{Orders}
use Rattle.hub_rules.specs.Judging.{joined}
use Rattle.hub_rules.specs.declared.verdict.Verdict.{Verdict}
use Rattle.hub_judges.specs.FromFacts.{lines_from}
use Rattle.hub_judges.proofs.despatch.load.Given as goal

-- the remaining lines, on what the earlier ones left
abbrev pub invariant-loop-index : goal.invariant-loop-index
invariant-loop-index l =
    (next : Orders → Verdict) →
    joined l.initial.changes (lines_from l.unit.sscc 0 l.unit.lines l.initial.book next)
    ≡ joined l.changes (lines_from l.unit.sscc l.index (drop l.index l.unit.lines) l.book next)

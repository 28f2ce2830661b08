use Rattle.std.proofs.Common.{◌≡◌, drop}
use Rattle.hub_rules.specs.ResponseRules.{is_empty}
use Rattle.hub_order_lines.specs.Book.{facts_of}
use Rattle.hub_judges.specs.FromFacts.{waiting}
use Rattle.hub_judges.proofs.answers.any_waits.Given as goal

abbrev pub invariant-loop-line : goal.invariant-loop-line
invariant-loop-line l = is_empty (waiting (facts_of l.lines l.order)) ≡ is_empty (waiting (facts_of (drop l.line-index l.lines) l.order))

use Rattle.std.proofs.Common.{◌≡◌, ◌++◌, map, drop}
use Rattle.std.specs.List.{AllByRecursion}
use Rattle.hub_tables.specs.declared.change.Change.TheVariants.{SetLine}
use Rattle.hub_order_lines.specs.Book.{facts_of, IsCovered}
use Rattle.hub_judges.specs.FromFacts.{after_answer, waiting}
use Rattle.hub_judges.proofs.answers.answer_all.Given as goal

-- the changes so far, then those of the remaining lines
abbrev pub invariant-loop-line : goal.invariant-loop-line
invariant-loop-line l = record {
  changes :
      l.initial.changes ++ map (λ line. SetLine (after_answer l.answer line)) (waiting (facts_of l.lines l.order))
      ≡ l.changes ++ map (λ line. SetLine (after_answer l.answer line)) (waiting (facts_of (drop l.line-index l.lines) l.order));
  covered : AllByRecursion IsCovered (drop l.line-index l.lines);
}

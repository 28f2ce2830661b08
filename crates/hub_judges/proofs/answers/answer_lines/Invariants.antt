use Rattle.std.proofs.Common.{◌≡◌, drop}
use Rattle.hub_rules.specs.Judging.{joined}
use Rattle.hub_judges.specs.FromFacts.{answers_from}
use Rattle.hub_judges.proofs.answers.answer_lines.Given as goal

-- the remaining answers, on what the earlier ones left
abbrev pub invariant-loop-answer : goal.invariant-loop-answer
invariant-loop-answer l =
    joined l.initial.changes (answers_from l.order l.said l.initial.book)
    ≡ joined l.changes (answers_from l.order (drop l.answer-index l.said) l.book)

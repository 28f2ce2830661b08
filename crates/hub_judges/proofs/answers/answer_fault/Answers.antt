use Rattle.std.proofs.Common.{rules}
use Rattle.hub_judges.proofs.answers.answer_fault.Goals as goal

pub returns-then-is_past_range-clause-some : goal.returns-then-is_past_range-clause-some
returns-then-is_past_range-clause-some c = search rules

pub returns-then-ne-clause-some : goal.returns-then-ne-clause-some
returns-then-ne-clause-some c = search rules

pub returns-clause-none : goal.returns-clause-none
returns-clause-none c = search rules

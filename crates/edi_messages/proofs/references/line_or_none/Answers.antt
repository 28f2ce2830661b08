use Rattle.std.proofs.Common.{rules}
use Rattle.edi_messages.proofs.references.line_or_none.Goals as goal

pub returns-then-is_empty-clause-some : goal.returns-then-is_empty-clause-some
returns-then-is_empty-clause-some c = search rules

pub returns-in_err-line-clause-none : goal.returns-in_err-line-clause-none
returns-in_err-line-clause-none c = search rules

pub returns-clause-some : goal.returns-clause-some
returns-clause-some c = search rules

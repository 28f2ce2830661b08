use Rattle.std.proofs.Common.{rules}
use Rattle.gs1_ids.proofs.prefix.Prefix.digits.Goals as goal

pub returns-clause-value : goal.returns-clause-value
returns-clause-value c = search rules

use Rattle.std.proofs.Common.{rules}
use Rattle.edi_moment.proofs.moment.Moment.seconds.Goals as goal

pub returns-clause-value : goal.returns-clause-value
returns-clause-value c = search rules

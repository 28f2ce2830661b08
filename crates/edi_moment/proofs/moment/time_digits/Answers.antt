use Rattle.std.proofs.Common.{rules}
use Rattle.edi_moment.proofs.moment.time_digits.Goals as goal

pub returns : goal.returns
returns c = search rules

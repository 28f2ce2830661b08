use Rattle.std.proofs.Common.{rules}
use Rattle.edi_moment.proofs.moment.date_digits.Goals as goal

pub returns : goal.returns
returns c = search rules

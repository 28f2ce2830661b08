use Rattle.std.proofs.Common.{rules}
use Rattle.hub_judges.proofs.mail.new_mail.Goals as goal

pub returns : goal.returns
returns c = search rules

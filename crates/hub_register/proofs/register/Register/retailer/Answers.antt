use Rattle.std.proofs.Common.{rules}
use Rattle.hub_register.proofs.register.Register.retailer.Goals as goal

pub returns-clause-value : goal.returns-clause-value
returns-clause-value c = search rules

use Rattle.std.proofs.Common.{rules}
use Rattle.gs1_ids.proofs.gtin.Gtin.digits.Goals as goal

pub returns-clause-value : goal.returns-clause-value
returns-clause-value c = search rules

pub returns-clause-valid : goal.returns-clause-valid
returns-clause-valid c = search rules

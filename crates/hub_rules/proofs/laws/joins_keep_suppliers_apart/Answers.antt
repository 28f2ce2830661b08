use Rattle.hub_rules.proofs.Joining.{joined_by}
use Rattle.hub_rules.proofs.laws.joins_keep_suppliers_apart.Goals as goal

pub returns : goal.returns
returns c row t changes here may accepted = joined_by row t here may changes accepted

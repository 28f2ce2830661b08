use Rattle.hub_rules.proofs.KeptBySubmissions.{leads}
use Rattle.hub_rules.proofs.laws.rules_keep_rows.Goals as goal

pub returns : goal.returns
returns c s state submission changes here read h = (leads s submission read state changes here h).after

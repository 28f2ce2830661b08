use Rattle.hub_rules.proofs.KeptBySubmissions.{remembers}
use Rattle.hub_rules.proofs.laws.accepted_is_remembered.Goals as goal

pub returns : goal.returns
returns c s state submission = remembers s state submission

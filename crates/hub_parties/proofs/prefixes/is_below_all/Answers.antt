use Rattle.gs1_ids.proofs.Decided.{Decides-is_prefix}
use Rattle.hub_parties.proofs.prefixes.is_below_all.Goals as goal

pub returns-clause-valid : goal.returns-clause-valid
returns-clause-valid c = (Decides-is_prefix c.args.prefix.now).1 c.digits-valid.ensures.valid

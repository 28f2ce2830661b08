use Rattle.std.proofs.Common.{rules}
use Rattle.gs1_ids.proofs.Prefixes.{begins-iff}
use Rattle.gs1_ids.proofs.prefix.Prefix.begins.Goals as goal

pub returns-clause-exact : goal.returns-clause-exact
returns-clause-exact c = begins-iff _ _ c.starts_with.result (cc)

pub returns-clause-value : goal.returns-clause-value
returns-clause-value c = search rules

use Rattle.std.proofs.Common.{◌≡◌, arith}
use Rattle.std.proofs.lemmas.Slice.{between_to_end}
use Rattle.gs1_ids.specs.Sscc.{under}
use Rattle.gs1_ids.proofs.Prefixes.{begins-iff}
use Rattle.gs1_ids.proofs.sscc.Sscc.under.Goals as goal
use Rattle.gs1_ids.proofs.sscc.Sscc.under.Goals.{After-starts_with}

test_is : (c : After-starts_with) → c.starts_with.result ≡ under c.args.self.now c.args.prefix.now
test_is c = let rest = between_to_end c.self.inside.digits 1 18 (omega arith) in cc

pub returns-clause-value : goal.returns-clause-value
returns-clause-value c = test_is c

pub returns-clause-exact : goal.returns-clause-exact
returns-clause-exact c = begins-iff _ _ c.starts_with.result (test_is c)

use Rattle.std.proofs.Common.{arith}
use Rattle.std.proofs.lemmas.Fmt.{decimal_digit}
use Rattle.sqlite.specs.Listing.{understood}
use Rattle.sqlite_tied.specs.Compute.{everything}
use Rattle.hub_schema.proofs.definitions.all.Goals as goal

pub returns-clause-indexes : goal.returns-clause-indexes
returns-clause-indexes c = rw (decimal_digit 1 (omega arith), decimal_digit 2 (omega arith))

pub returns-clause-texts : goal.returns-clause-texts
unfolding understood everything
returns-clause-texts c = assumption

pub returns-clause-traffic_indexes : goal.returns-clause-traffic_indexes
returns-clause-traffic_indexes c = rw (decimal_digit 1 (omega arith), decimal_digit 2 (omega arith))

pub returns-clause-parties : goal.returns-clause-parties
unfolding understood everything
returns-clause-parties c = assumption

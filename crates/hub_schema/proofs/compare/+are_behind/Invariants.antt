use Rattle.std.proofs.Common.{length}
use Rattle.hub_schema.proofs.compare.+are_behind.Given as goal

abbrev pub decreases-are_behind : goal.decreases-are_behind
decreases-are_behind l = length l.tables.now

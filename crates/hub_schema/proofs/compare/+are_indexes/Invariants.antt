use Rattle.std.proofs.Common.{length}
use Rattle.hub_schema.proofs.compare.+are_indexes.Given as goal

abbrev pub decreases-are_indexes : goal.decreases-are_indexes
decreases-are_indexes l = length l.tables.now

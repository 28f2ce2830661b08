use Rattle.std.proofs.Common.{length}
use Rattle.hub_schema.proofs.compare.+is_place.Given as goal

abbrev pub decreases-is_place : goal.decreases-is_place
decreases-is_place l = length l.columns.now

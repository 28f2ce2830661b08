use Rattle.std.proofs.Common.{length}
use Rattle.hub_schema.proofs.standing.+stand.Given as goal

abbrev pub decreases-stand : goal.decreases-stand
decreases-stand g l = length l.definitions.now

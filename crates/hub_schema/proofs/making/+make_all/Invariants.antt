use Rattle.std.proofs.Common.{length}
use Rattle.hub_schema.proofs.making.+make_all.Given as goal

abbrev pub decreases-make_all : goal.decreases-make_all
decreases-make_all g l = length l.definitions.now

use Rattle.std.proofs.Common.{length}
use Rattle.http_messages.proofs.fields.+values_in.Given as goal

abbrev pub decreases-values_in : goal.decreases-values_in
decreases-values_in l = length l.fields.now

use Rattle.std.proofs.Common.{◌↔◌, IsTrue, length}
use Rattle.gs1_ids.specs.StoredPrefix.{AgreeBelow}
use Rattle.gs1_ids.proofs.prefix.agree.Given as goal

abbrev pub invariant-loop-our : goal.invariant-loop-our
invariant-loop-our l = IsTrue l.agree ↔ AgreeBelow l.ours l.theirs (length l.yielded)

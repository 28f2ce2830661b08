use Rattle.std.proofs.Common.{◌≡◌, take}
use Rattle.trial_lists.proofs.look.copies.Given as goal

abbrev pub invariant-loop-row : goal.invariant-loop-row
invariant-loop-row g l = l.copies ≡ take l.row-index l.rows

use Rattle.std.proofs.Common.{◌≡◌, ◌++◌}
use Rattle.trial_lists.proofs.look.put_rows.Given as goal

abbrev pub invariant-loop-row : goal.invariant-loop-row
invariant-loop-row l = l.found ++ l.row-iterator.rest.items ≡ l.fn.found ++ l.fn.rows

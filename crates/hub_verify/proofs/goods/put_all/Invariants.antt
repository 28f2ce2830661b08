use Rattle.std.proofs.Common.{◌≡◌, ◌++◌}
use Rattle.hub_verify.proofs.goods.put_all.Given as goal

abbrev pub invariant-loop-row : goal.invariant-loop-row
invariant-loop-row l = l.found ++ l.row-iterator.rest.items ≡ l.fn.found ++ l.fn.rows

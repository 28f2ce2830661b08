use Rattle.std.proofs.Common.{◌≡◌}
use Rattle.hub_transactions.proofs.despatches.index_unit.Given as goal

abbrev pub invariant-loop-line : goal.invariant-loop-line
invariant-loop-line l = l.orders ≡ l.fn.orders

use Rattle.std.proofs.Common.{◌≡◌}
use Rattle.hub_transactions.proofs.despatches.index_units.Given as goal

abbrev pub invariant-loop-unit : goal.invariant-loop-unit
invariant-loop-unit l = l.orders ≡ l.fn.orders

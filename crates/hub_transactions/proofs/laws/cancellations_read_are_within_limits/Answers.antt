use Rattle.hub_transactions.proofs.CancelWithin.{cancel_within}
use Rattle.hub_transactions.proofs.laws.cancellations_read_are_within_limits.Goals as goal

pub returns : goal.returns
returns c = cancel_within

use Rattle.hub_clean.proofs.OpenedWithin.{opened_within}
use Rattle.hub_clean.proofs.laws.messages_opened_are_within_limits.Goals as goal

pub returns : goal.returns
returns c = opened_within

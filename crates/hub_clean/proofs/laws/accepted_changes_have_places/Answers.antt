use Rattle.hub_clean.proofs.Placing.{order_there}
use Rattle.hub_clean.proofs.Submitted.{submission_there}
use Rattle.hub_clean.proofs.laws.accepted_changes_have_places.Goals as goal

pub returns-clause-order : goal.returns-clause-order
returns-clause-order c = order_there

pub returns-clause-submission : goal.returns-clause-submission
returns-clause-submission c = submission_there

use Rattle.hub_law.proofs.Recurring.{row_there, cancellation_there}
use Rattle.hub_law.proofs.repeats.accepted_stays_remembered.Goals as goal

pub returns-clause-message : goal.returns-clause-message
returns-clause-message c t before between input mark place message one =
    row_there t before between input mark place message one.comes one.reached one.accepted

pub returns-clause-cancellation : goal.returns-clause-cancellation
returns-clause-cancellation c t before between input cancellation asked =
    cancellation_there cancellation t before between input asked

use Rattle.hub_law.proofs.Recurring.{told_again, left_again, cancelled_again}
use Rattle.hub_law.proofs.repeats.repeated_in_runs.Goals as goal

pub returns-clause-message : goal.returns-clause-message
returns-clause-message c t before between first second mark place later message one other alike =
    told_again t before between first mark place message one.comes one.reached one.accepted second later other one.start alike

pub returns-clause-stays : goal.returns-clause-stays
returns-clause-stays c t before between first second mark place later message one other alike =
    left_again t before between first mark place message one.comes one.reached one.accepted second later other one.start alike

pub returns-clause-cancellation : goal.returns-clause-cancellation
returns-clause-cancellation c t before between first second cancellation here one other =
    cancelled_again cancellation t before between first one second here other

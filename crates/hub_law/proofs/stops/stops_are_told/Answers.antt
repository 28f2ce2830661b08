use Rattle.hub_law.proofs.Stopping.{empty_stop, bare_stop, stop_is_told}
use Rattle.hub_law.proofs.stops.stops_are_told.Goals as goal

pub returns-clause-outcome : goal.returns-clause-outcome
returns-clause-outcome c t input mark = stop_is_told t input mark

pub returns-clause-empty : goal.returns-clause-empty
returns-clause-empty c = empty_stop

pub returns-clause-bare : goal.returns-clause-bare
returns-clause-bare c = bare_stop

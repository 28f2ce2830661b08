use Rattle.hub_law.proofs.Agreeing.{status_is_own}
use Rattle.hub_law.proofs.Runs.{whole_run}
use Rattle.hub_law.proofs.laws.run_is_own.Goals as goal

pub returns-clause-run : goal.returns-clause-run
returns-clause-run c gln t inputs here other = whole_run gln inputs t here other

pub returns-clause-status : goal.returns-clause-status
returns-clause-status c = status_is_own

use Rattle.hub_clean.proofs.CleanSteps.{step_clean, run_clean}
use Rattle.hub_clean.proofs.laws.steps_keep_rows_clean.Goals as goal

pub returns-clause-step : goal.returns-clause-step
returns-clause-step c = step_clean

pub returns-clause-run : goal.returns-clause-run
returns-clause-run c = run_clean

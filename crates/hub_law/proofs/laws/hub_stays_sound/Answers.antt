use Rattle.hub_rules.proofs.Joining.{founded_sound}
use Rattle.hub_tables.proofs.Founding.{register_back}
use Rattle.hub_law.specs.Machine.{shared_run}
use Rattle.hub_law.proofs.Going.{step_goes, run_goes, parties_stay, retailer_stays}
use Rattle.hub_law.proofs.laws.hub_stays_sound.Goals as goal

pub returns-clause-step : goal.returns-clause-step
returns-clause-step c t input mark here = (step_goes t here input mark).sound

pub returns-clause-run : goal.returns-clause-run
returns-clause-run c t inputs here = (run_goes inputs t here).sound

pub returns-clause-parties : goal.returns-clause-parties
returns-clause-parties c t inputs here = parties_stay t (shared_run t inputs).1 (run_goes inputs t here)

pub returns-clause-rows : goal.returns-clause-rows
returns-clause-rows c t inputs gln s here known = (run_goes inputs t here).stays gln s known

pub returns-clause-retailer : goal.returns-clause-retailer
returns-clause-retailer c t inputs caller key here role =
    let goes = run_goes inputs t here in
    retailer_stays t (shared_run t inputs).1 caller key goes.sound goes.hubs role

pub returns-clause-founded : goal.returns-clause-founded
returns-clause-founded c = founded_sound

pub returns-clause-register : goal.returns-clause-register
returns-clause-register c = register_back

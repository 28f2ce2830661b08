use Rattle.hub_tables.proofs.Founding.{register_back, holds_register, founded_rises}
use Rattle.hub_tables.proofs.laws.founded_tables_hold_their_register.Goals as goal

pub returns-clause-rising : goal.returns-clause-rising
returns-clause-rising c = founded_rises

pub returns-clause-holds : goal.returns-clause-holds
returns-clause-holds c = holds_register

pub returns-clause-same : goal.returns-clause-same
returns-clause-same c = register_back

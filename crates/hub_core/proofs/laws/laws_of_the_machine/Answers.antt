use Rattle.hub_tables.specs.Register.{suppliers_of}
use Rattle.hub_core.proofs.laws.laws_of_the_machine.Goals as goal

pub returns : goal.returns
returns c = record {
  step_own = c.step_is_own.ensures;
  run_own = c.run_is_own.ensures.run;
  status = c.run_is_own.ensures.status;
  sound = c.hub_stays_sound.ensures.step;
  parties = c.hub_stays_sound.ensures.parties;
  balance = λ t here. c.each_line_balances.ensures (suppliers_of t) t here.sound;
  outcome = c.stops_are_told.ensures.outcome;
  empty = c.stops_are_told.ensures.empty;
  bare = c.stops_are_told.ensures.bare;
}

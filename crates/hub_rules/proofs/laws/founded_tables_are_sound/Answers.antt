use Rattle.hub_rules.proofs.Joining.{founded_sound}
use Rattle.hub_rules.proofs.laws.founded_tables_are_sound.Goals as goal

pub returns : goal.returns
returns c = founded_sound

use Rattle.hub_sound.proofs.Showing.{shows_none}
use Rattle.hub_sound.proofs.laws.shown_tables_are_unsound.Goals as goal

pub returns : goal.returns
returns c t kind key clean shows hub = shows_none t clean hub kind key shows

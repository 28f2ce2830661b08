use Rattle.hub_rules.proofs.Migrating.{sound_beside}
use Rattle.hub_rules.proofs.laws.migrated_tables_are_sound.Goals as goal

pub returns : goal.returns
returns c = sound_beside

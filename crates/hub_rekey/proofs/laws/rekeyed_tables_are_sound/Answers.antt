use Rattle.hub_rekey.proofs.Tables.{rekeyed_sound}
use Rattle.hub_rekey.proofs.laws.rekeyed_tables_are_sound.Goals as goal

pub returns : goal.returns
returns c = rekeyed_sound

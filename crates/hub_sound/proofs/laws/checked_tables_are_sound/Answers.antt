use Rattle.hub_sound.proofs.Showing.{checked_sound}
use Rattle.hub_sound.proofs.laws.checked_tables_are_sound.Goals as goal

pub returns : goal.returns
returns c t glns rising clean checked = checked_sound t rising clean glns checked

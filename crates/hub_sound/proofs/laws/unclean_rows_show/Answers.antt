use Rattle.hub_sound.proofs.Showing.{unclean_shows}
use Rattle.hub_sound.proofs.laws.unclean_rows_show.Goals as goal

pub returns : goal.returns
returns c = unclean_shows

use Rattle.edi_places.proofs.Showing.{place_of_byte, place_of_end}
use Rattle.edi_places.proofs.laws.place_is_of_what_shows.Goals as goal

pub returns : goal.returns
returns c = record { of_byte = place_of_byte; of_end = place_of_end }

use Rattle.edi_places.proofs.Repeats.{LinesFrom}
use Rattle.edi_places.proofs.orders.first_line_place.Given as goal

abbrev pub invariant-loop-index : goal.invariant-loop-index
invariant-loop-index l = LinesFrom l.message l.index l.numbers

use Rattle.edi_places.proofs.Repeats.{UnitsFrom}
use Rattle.edi_places.proofs.goods.first_unit_place.Given as goal

abbrev pub invariant-loop-index : goal.invariant-loop-index
invariant-loop-index l = UnitsFrom l.message l.index l.seen

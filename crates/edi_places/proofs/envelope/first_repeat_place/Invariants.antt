use Rattle.edi_places.proofs.Repeats.{RepeatsFrom}
use Rattle.edi_places.proofs.envelope.first_repeat_place.Given as goal

abbrev pub invariant-loop-index : goal.invariant-loop-index
invariant-loop-index l = RepeatsFrom l.segments l.index l.seen

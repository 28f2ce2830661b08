use Rattle.edi_places.proofs.Stopping.{HasReachedPlace}
use Rattle.edi_places.proofs.text.stop_in.Given as goal

abbrev pub invariant-loop-offset : goal.invariant-loop-offset
invariant-loop-offset l = HasReachedPlace l.bytes l.machine l.offset l.line l.segment

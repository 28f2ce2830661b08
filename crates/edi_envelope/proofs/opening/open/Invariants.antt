use Rattle.edi_envelope.specs.Gathered.{OpeningStands}
use Rattle.edi_envelope.proofs.opening.open.Given as goal

abbrev pub invariant-loop-segment : goal.invariant-loop-segment
invariant-loop-segment l = OpeningStands l.yielded l.opening

use Rattle.std.proofs.Common.{◌≡◌, ◌++◌, take, map}
use Rattle.edi_envelope.specs.Mail.{renumbered}
use Rattle.edi_envelope.proofs.mail.push_numbered.Given as goal

abbrev pub invariant-loop-segment : goal.invariant-loop-segment
invariant-loop-segment l = l.out ≡ l.fn.out ++ map renumbered (take l.segment-index l.segments)

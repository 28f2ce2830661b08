use Rattle.std.proofs.Common.{◌≡◌, take}
use Rattle.edi_envelope.proofs.mail.copied_elements.Given as goal

abbrev pub invariant-loop-element : goal.invariant-loop-element
invariant-loop-element l = l.copy ≡ take l.element-index l.elements

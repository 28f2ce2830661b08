use Rattle.std.proofs.Common.{◌≡◌, take}
use Rattle.edi_envelope.proofs.mail.copied_element.Given as goal

abbrev pub invariant-loop-component : goal.invariant-loop-component
invariant-loop-component l = l.copy ≡ take l.component-index l.components

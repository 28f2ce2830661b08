-- Defines the fault of a message independently of the order of the checks: it is the fault with the lowest number.
use Rattle.std.specs.Prelude.{◌<◌}
use Rattle.edi_messages.specs.Fault.{number}
use Rattle.edi_messages.specs.declared.fault.MessageFault.{MessageFault}

-- what this fault checks is not valid, and what each fault with a lower number checks is
pub record IsLowest (IsRight : MessageFault → Type 0) (fault : MessageFault) : Type 0 where
  pub here : IsRight fault → ⊥
  pub lower : (other : MessageFault) → number other < number fault → IsRight other

-- everything is valid
abbrev pub IsFaultless : (MessageFault → Type 0) → Type 0
IsFaultless IsRight = (fault : MessageFault) → IsRight fault

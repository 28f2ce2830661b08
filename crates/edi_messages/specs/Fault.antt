-- The faults of a message: the number of each, which one goes before another, and what is printed.
use Rattle.std.specs.Prelude.{ℕ, ◌+◌, ◌/◌, ◌%◌, Bool, not, nat_lt, List, [], ◌∷◌, ◌++◌, filter, find, codes}
use Rattle.std.specs.Prelude.{Option, Some, None, Result, Ok, Err}
use Rattle.edi_messages.specs.declared.fault.MessageFault.{MessageFault}
use Rattle.edi_messages.specs.declared.fault.MessageFault.TheVariants as fault

-- the number that is printed of a fault; out of memory has none
abbrev pub number : MessageFault → ℕ
number fault.MessageType = 1
number fault.Beginning = 2
number fault.Function = 3
number fault.Date = 4
number fault.Parties = 5
number fault.Summary = 6
number fault.Line = 7
number fault.Quantity = 8
number fault.Reference = 9
number fault.Unit = 10
number fault.Control = 11
number fault.WithoutLines = 12
number fault.Memory = 0

-- M and the two digits of a number
abbrev pub numbered : ℕ → List ℕ
numbered n = codes "M" ++ (48 + n / 10) ∷ (48 + n % 10) ∷ []

abbrev pub code_text : MessageFault → List ℕ
code_text fault.Memory = codes "memory"
code_text other = numbered (number other)

-- the faults by rising number
abbrev pub faults : List MessageFault
faults = fault.MessageType ∷ fault.Beginning ∷ fault.Function ∷ fault.Date ∷ fault.Parties ∷ fault.Summary ∷ fault.Line
    ∷ fault.Quantity ∷ fault.Reference ∷ fault.Unit ∷ fault.Control ∷ fault.WithoutLines ∷ []

-- this fault and those after it
abbrev pub faults_from : MessageFault → List MessageFault
faults_from first = filter (λ later. not (nat_lt (number later) (number first))) faults

abbrev pub unless : {X : Type 0} → Option MessageFault → X → Result X MessageFault
unless None content = Ok content
unless (Some found) content = Err found

-- a record if no condition holds, or else the lowest fault whose condition does
abbrev pub unless_any : {X : Type 0} → (MessageFault → Bool) → X → Result X MessageFault
unless_any holds content = unless (find holds faults) content

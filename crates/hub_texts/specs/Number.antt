-- Defines how the numbers in requests are read: those of mailbox entries, and seconds.
use Rattle.std.specs.Prelude.{ℕ, if◌then◌else◌, List, Option, Some, None}
use Rattle.edi_base.specs.Limits.{are_digits, number_of}

-- the number that 1 to 14 digits write
abbrev pub number_in : List ℕ → Option ℕ
number_in digits = if are_digits 1 14 digits then Some (number_of digits) else None

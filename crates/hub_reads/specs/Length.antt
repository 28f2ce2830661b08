-- Defines whether a cell is a number, as one that shows the length of a text.
use Rattle.std.specs.Prelude.{ℕ, ◌==◌, pos, negsuc, Bool, false}
use Rattle.sqlite_value.specs.declared.value.Value.{Value}
use Rattle.sqlite_value.specs.declared.value.Value.TheVariants.{Null, Int, Real, Text, Blob}

abbrev pub is_number : ℕ → Value → Bool
is_number n (Int (pos m)) = m == n
is_number n (Int (negsuc m)) = false
is_number n Null = false
is_number n (Real x) = false
is_number n (Text t) = false
is_number n (Blob b) = false

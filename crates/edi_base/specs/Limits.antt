-- Defines the limits of data elements: their lengths, their characters, and the numbers that their digits write.
use Rattle.std.specs.Prelude.{ℕ, ◌+◌, ◌-◌, ◌*◌, Bool, ◌==◌, ◌&&◌, nat_le, if◌then◌else◌, List, length, fold, Option}
use Rattle.std.specs.Prelude.{Some, None}
use Rattle.std.specs.List.{list_all}

-- whether the text has `low` to `high` bytes
abbrev pub has_length : ℕ → ℕ → List ℕ → Bool
has_length low high bytes = nat_le low (length bytes) && nat_le (length bytes) high

-- a byte of 0x20 to 0x7E
abbrev pub is_printable : ℕ → Bool
is_printable b = nat_le 32 b && nat_le b 126

abbrev pub is_digit : ℕ → Bool
is_digit b = nat_le 48 b && nat_le b 57

-- whether the text is `low` to `high` digits
abbrev pub are_digits : ℕ → ℕ → List ℕ → Bool
are_digits low high bytes = has_length low high bytes && list_all is_digit bytes

-- whether the text is a count: 1 to 6 digits; leading zeros are allowed
abbrev pub is_count : List ℕ → Bool
is_count = are_digits 1 6

-- the number with one more digit after it
abbrev pub with_digit : ℕ → ℕ → ℕ
with_digit number digit = 10 * number + (digit - 48)

-- the number that decimal digits write
abbrev pub number_of : List ℕ → ℕ
number_of digits = fold with_digit 0 digits

-- the greatest number that is accepted in any data element
abbrev pub greatest : ℕ
greatest = 999_999_999

-- the number that the digits write, unless it is greater than that
abbrev pub value_of : List ℕ → Option ℕ
value_of digits = if nat_le (number_of digits) greatest then Some (number_of digits) else None

-- the number of a count, or `None` if the text is not a count
abbrev pub count_of : List ℕ → Option ℕ
count_of bytes = if is_count bytes then Some (number_of bytes) else None

-- whether the text is a count of this number
abbrev pub is_count_of : List ℕ → ℕ → Bool
is_count_of bytes n = is_count bytes && (number_of bytes == n)

-- Keys of digits, and their check digit: GS1 General Specifications, section 7.9.1, "Standard check digit calculations
-- for GS1 data structures". A key is the list of its ASCII digits.
use Rattle.std.specs.Prelude.{◌≡◌, ℕ, ◌+◌, ◌-◌, ◌*◌, ◌%◌, ◌==◌, Bool, ◌&&◌, if◌then◌else◌, List, [], ◌∷◌, length, take}
use Rattle.std.specs.Prelude.{All, slice_index}
use Rattle.std.specs.Char.{IsAsciiDigit, is_ascii_digit}
use Rattle.std.specs.List.{list_all}

-- the number that an ASCII digit writes
abbrev pub digit_value : ℕ → ℕ
digit_value c = c - 48

-- the weight of a place; places count from the right, and place 0 is beside the check digit
abbrev pub weight : ℕ → ℕ
weight place = if place % 2 == 0 then 3 else 1

-- the digits, each times the weight of its place, which is the number of digits to its right
abbrev pub weighted_sum : List ℕ → ℕ
weighted_sum [] = 0
weighted_sum (x ∷ xs) = digit_value x * weight (length xs) + weighted_sum xs

-- the check digit, as a number: what brings the sum to a multiple of ten
abbrev pub check : List ℕ → ℕ
check xs = (10 - weighted_sum xs % 10) % 10

-- n digits, of which the last is the check digit of those before it
pub record IsKey (n : ℕ) (xs : List ℕ) : Type 0 where
  pub len : length xs ≡ n
  pub ascii : All IsAsciiDigit xs
  pub checked : digit_value (slice_index xs (n - 1)) ≡ check (take (n - 1) xs)

-- as a test
abbrev pub is_key : ℕ → List ℕ → Bool
is_key n xs = length xs == n && (list_all is_ascii_digit xs
    && digit_value (slice_index xs (n - 1)) == check (take (n - 1) xs))

-- Company prefixes, and what begins what.
use Rattle.std.specs.Prelude.{◌≡◌, ℕ, ◌≤◌, Bool, ◌&&◌, ◌||◌, nat_eq, nat_le, if◌then◌else◌, List, ◌++◌, length, All}
use Rattle.std.specs.Prelude.{Option, Some, None}
use Rattle.std.specs.Char.{IsAsciiDigit, is_ascii_digit}
use Rattle.std.specs.List.{list_all, starts_with}

-- a prefix: four to twelve digits, with no check digit
pub record IsPrefix (xs : List ℕ) : Type 0 where
  pub least : 4 ≤ length xs
  pub most : length xs ≤ 12
  pub ascii : All IsAsciiDigit xs

-- as a test
abbrev pub is_prefix : List ℕ → Bool
is_prefix xs = nat_le 4 (length xs) && (nat_le (length xs) 12 && list_all is_ascii_digit xs)

-- the prefix that a text writes, if it is one
abbrev pub prefix_of : List ℕ → Option (List ℕ)
prefix_of text = if is_prefix text then Some text else None

-- digits that are the prefix and whatever follows it
abbrev pub Begins : List ℕ → List ℕ → Type 0
Begins prefix xs = (rest : List ℕ) × (xs ≡ prefix ++ rest)

-- as a test
abbrev pub begins : List ℕ → List ℕ → Bool
begins prefix xs = starts_with nat_eq xs prefix

-- one of the two begins the other; equal prefixes begin each other
abbrev pub overlap : List ℕ → List ℕ → Bool
overlap p q = begins p q || begins q p

-- Global Trade Item Numbers (GS1 application identifiers 01 and 02).
use Rattle.std.specs.Prelude.{ℕ, ◌-◌, ◌==◌, Bool, ◌&&◌, ◌||◌, IsTrue, if◌then◌else◌, List, ◌++◌, length, replicate}
use Rattle.std.specs.Prelude.{Option, Some, None}
use Rattle.gs1_ids.specs.Digits.{IsKey, is_key}

-- the lengths of a GTIN-8, a GTIN-12, a GTIN-13 and a GTIN-14
abbrev pub is_gtin_length : ℕ → Bool
is_gtin_length n = n == 8 || (n == 12 || (n == 13 || n == 14))

-- a GTIN: digits of such a length, the last the check digit
pub record IsGtin (xs : List ℕ) : Type 0 where
  pub len : IsTrue (is_gtin_length (length xs))
  pub key : IsKey (length xs) xs

-- the digits in a field of fourteen, filled with zeros on the left
abbrev pub in_fourteen : List ℕ → List ℕ
in_fourteen xs = replicate (14 - length xs) 48 ++ xs

-- the fourteen digits of the GTIN that a text writes, if it is one
abbrev pub gtin_of : List ℕ → Option (List ℕ)
gtin_of text = if is_gtin_length (length text) && is_key (length text) text then Some (in_fourteen text) else None

-- Global Location Numbers (GS1 application identifiers 410 to 417).
use Rattle.std.specs.Prelude.{ℕ, Bool, if◌then◌else◌, List, Option, Some, None}
use Rattle.gs1_ids.specs.Digits.{IsKey, is_key}

-- a GLN: thirteen digits, the last the check digit
abbrev pub IsGln : List ℕ → Type 0
IsGln xs = IsKey 13 xs

-- as a test
abbrev pub is_gln : List ℕ → Bool
is_gln = is_key 13

-- the GLN that a text writes, if it is one
abbrev pub gln_of : List ℕ → Option (List ℕ)
gln_of text = if is_gln text then Some text else None

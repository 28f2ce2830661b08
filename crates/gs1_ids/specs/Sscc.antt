-- Serial Shipping Container Codes (GS1 application identifier 00).
use Rattle.std.specs.Prelude.{ℕ, Bool, if◌then◌else◌, List, Option, Some, None, drop}
use Rattle.std.specs.List.{list_any}
use Rattle.gs1_ids.specs.Digits.{IsKey, is_key}
use Rattle.gs1_ids.specs.Prefix.{begins}

-- an SSCC: the extension digit, sixteen digits of company prefix and serial reference, and the check digit
abbrev pub IsSscc : List ℕ → Type 0
IsSscc xs = IsKey 18 xs

-- the SSCC that a text writes, if it is one
abbrev pub sscc_of : List ℕ → Option (List ℕ)
sscc_of text = if is_key 18 text then Some text else None

-- the prefix begins what follows the extension digit
abbrev pub under : List ℕ → List ℕ → Bool
under sscc prefix = begins prefix (drop 1 sscc)

-- one of the prefixes does
abbrev pub under_some : List ℕ → List (List ℕ) → Bool
under_some sscc prefixes = list_any (under sscc) prefixes

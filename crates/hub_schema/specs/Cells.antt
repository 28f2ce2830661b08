-- Defines how a cell is read as bytes or as a number. A cell of another type, or a number that does not fit a u64,
-- gives a value past every limit. Two different BLOBs never give the same bytes, and two different INTEGERs never the
-- same number.
use Rattle.std.specs.Prelude.{ℕ, ◌+◌, ◌*◌, ◌^◌, nat_lt, if◌then◌else◌, ℤ, pos, negsuc, List, [], ◌∷◌}
use Rattle.sqlite_value.specs.declared.value.Value.{Value}
use Rattle.sqlite_value.specs.declared.value.Value.TheVariants.{Null, Int, Real, Text, Blob}

-- the bytes of a BLOB; any other type gives 256, which is not a byte
abbrev pub bytes_in : Value → List ℕ
bytes_in (Blob b) = b
bytes_in Null = 256 ∷ []
bytes_in (Int n) = 256 ∷ []
bytes_in (Real x) = 256 ∷ []
bytes_in (Text t) = 256 ∷ []

-- a number that does not fit a u64 gives one past every limit, and two such numbers give different ones
abbrev pub natural : ℤ → ℕ
natural (pos n) = if nat_lt n (2 ^ 64) then n else 2 * n
natural (negsuc n) = 2 ^ 65 + 2 * n + 1

-- the number of an INTEGER; any other type gives 2 ^ 64
abbrev pub number_in : Value → ℕ
number_in (Int n) = natural n
number_in Null = 2 ^ 64
number_in (Real x) = 2 ^ 64
number_in (Text t) = 2 ^ 64
number_in (Blob b) = 2 ^ 64

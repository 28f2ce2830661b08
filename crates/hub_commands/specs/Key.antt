-- The key in the bytes of a file: the first line, without its line end.
use Rattle.std.specs.Prelude.{ℕ, ◌+◌, ◌==◌, Bool, false, ◌&&◌, ◌||◌, if◌then◌else◌, List, [], ◌∷◌, take}

-- the next byte is LF
abbrev pub begins_with_lf : List ℕ → Bool
begins_with_lf [] = false
begins_with_lf (byte ∷ rest) = byte == 0x0A

-- a line end comes next: LF or CR LF
abbrev pub at_line_end : List ℕ → Bool
at_line_end [] = false
at_line_end (byte ∷ rest) = byte == 0x0A || (byte == 0x0D && begins_with_lf rest)

-- what comes before the first line end; all, if there is none
abbrev pub first_line : List ℕ → List ℕ
first_line [] = []
first_line (byte ∷ rest) = if at_line_end (byte ∷ rest) then [] else byte ∷ first_line rest

-- how many bytes of a line are kept: one more than a key may have, so that a longer line is not a key either
abbrev pub line_limit : ℕ
line_limit = 65

-- the key that a file gives
abbrev pub key_in : List ℕ → List ℕ
key_in bytes = take line_limit (first_line bytes)

-- how many bytes of a file are read: the byte after those that are kept shows whether a CR ends the line
abbrev pub key_read_limit : ℕ
key_read_limit = line_limit + 1

-- Defines how fields are laid out in the lines of replies.
use Rattle.std.specs.Prelude.{ℕ, ◌-◌, List, [], ◌∷◌, ◌++◌, length, replicate}

-- this many blanks
abbrev pub blanks : ℕ → List ℕ
blanks n = replicate n 0x20

-- a field right-aligned in this many columns, and one left-aligned
abbrev pub right : ℕ → List ℕ → List ℕ
right width field = blanks (width - length field) ++ field

abbrev pub left : ℕ → List ℕ → List ℕ
left width field = field ++ blanks (width - length field)

-- fields separated by one blank
abbrev pub parted : List (List ℕ) → List ℕ
parted [] = []
parted (field ∷ []) = field
parted (field ∷ next ∷ fields) = field ++ 0x20 ∷ parted (next ∷ fields)

-- a line of fields, ended by LF
abbrev pub line : List (List ℕ) → List ℕ
line fields = parted fields ++ 0x0A ∷ []

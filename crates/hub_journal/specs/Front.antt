-- Defines how the first bytes of a text are kept in a limited space.
use Rattle.std.specs.Prelude.{ℕ, ◌-◌, List, ◌++◌, length, take}

-- the most bytes that are kept
abbrev pub room : ℕ
room = 2400

-- adds as many of these bytes as there is room for
unfoldable pub kept : List ℕ → List ℕ → List ℕ
kept before bytes = before ++ take (room - length before) bytes

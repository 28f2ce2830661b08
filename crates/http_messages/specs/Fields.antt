-- Fields by their names. A name is compared without regard to the case of ASCII letters (RFC 9110, section 5.1).
use Rattle.std.specs.Prelude.{◌≡◌, ℕ, ◌≤◌, Bool, List, [], ◌∷◌, length, map, if◌then◌else◌}
use Rattle.std.specs.Str.{bytes_eq}
use Rattle.std.specs.Char.{to_ascii_lowercase}
use Rattle.http_messages.specs.declared.fields.Values.{Values}
use Rattle.http_messages.specs.declared.fields.Values.TheVariants.{Absent, One, Several}

-- equal but for the case of ASCII letters
abbrev pub same_letters : List ℕ → List ℕ → Bool
same_letters name other = bytes_eq (map to_ascii_lowercase name) (map to_ascii_lowercase other)

-- the values of the fields of a name, in their order
abbrev pub values_of : List ℕ → List (List ℕ × List ℕ) → List (List ℕ)
values_of name [] = []
values_of name (field ∷ fields) =
    if same_letters field.0 name then field.1 ∷ values_of name fields else values_of name fields

-- none, one, or more values
abbrev pub AreValues : Values → List (List ℕ) → Type 0
AreValues Absent values = values ≡ []
AreValues (One value) values = values ≡ value.now ∷ []
AreValues Several values = 2 ≤ length values

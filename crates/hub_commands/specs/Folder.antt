-- Defines the names of a folder that still come, and how many cannot be printed: they are not UTF-8, or have a control
-- byte.
use Rattle.std.specs.Prelude.{◌≡◌, ℕ, ◌+◌, Bool, List, [], ◌∷◌, length, String, string_bytes, Option, Some, None}
use Rattle.std.specs.Prelude.{Result, Ok, Err, ◌&&◌, ◌==◌, nat_le, not, true, All}
use Rattle.std.specs.List.{list_all}
use Rattle.std.specs.declared.alloc.Global.{Global}
use Rattle.hub_commands.specs.declared.files.NextFile.{NextFile}
use Rattle.hub_commands.specs.declared.files.NextFile.TheVariants.{Named, Unnamed}

abbrev pub FolderNames : Type 0
FolderNames = List (String Global) × ℕ

-- a byte that is not a control byte
abbrev pub is_plain_byte : ℕ → Bool
is_plain_byte b = nat_le 32 b && not (b == 127)

-- no name has a control byte
abbrev pub AreTold : List (String Global) → Type 0
AreTold names = All (λ name. list_all is_plain_byte (string_bytes name) ≡ true) names

-- how many files still come
abbrev pub most_of : FolderNames → ℕ
most_of names = length names.0 + names.1

-- the next file has the first name, or one that cannot be printed if there is none; otherwise there is no file
abbrev pub GivesInOrder : {B E : Type 0} → FolderNames → FolderNames → Result (Option (NextFile B)) E → Type 0
GivesInOrder old new (Ok (Some (Named file))) = (old.0 ≡ file.name ∷ new.0) × (new.1 ≡ old.1)
GivesInOrder old new (Ok (Some Unnamed)) = (old.0 ≡ []) × (new.0 ≡ []) × (old.1 ≡ new.1 + 1)
GivesInOrder old new (Ok None) = (old.0 ≡ []) × (old.1 ≡ 0)
GivesInOrder old new (Err fault) = ⊥

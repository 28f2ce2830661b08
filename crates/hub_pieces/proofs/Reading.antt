-- Rows that were read.
use Rattle.std.proofs.Common.{◌≡◌, ℕ, Bool, true, List, Ok, ap, subst, ◌∙◌}
use Rattle.std.specs.List.{list_all}
use Rattle.hub_sound.specs.Finding.{RowKey}
use Rattle.hub_tables.specs.Tables.{Tables}
use Rattle.hub_pieces.specs.AllRows.{Tells, IsRead}
use Rattle.hub_pieces.specs.Pieces.{piece}
use Rattle.hub_pieces.specs.declared.all_rows.Read.{Read as Found}
use Rattle.hub_pieces.specs.declared.all_rows.Read.TheVariants.{Rows}
use Rattle.hub_pieces.proofs.Telling.{follows}

pub rows_are : {X : Type 0} (key_of : X → RowKey) (clean : X → Bool) (rows : List X) (read : Found X) (xs : List X) → read ≡ Rows xs
    → IsRead key_of clean rows read
    → xs ≡ rows
rows_are key_of clean rows read xs is it = (subst (IsRead key_of clean rows) is it).0

module _ {S : Type 0} (content : S → Tables) (honest : S → Type 0) {X : Type 0} (rows : Tables → List X) (column : X → List ℕ)
    (key_of : X → RowKey) (clean : X → Bool) (value : List ℕ) where
  -- the rows with a value, each with the form of its kind
  abbrev pub ArePiece : Tables → List X → Type 0
  ArePiece t xs = (xs ≡ piece column value (rows t)) × (list_all clean xs ≡ true)

  pub rows_told : (old new : S) (read : Found X) (xs : List X) → read ≡ Rows xs
      → Tells content honest (λ t. IsRead key_of clean (piece column value (rows t))) old new (Ok read)
      → Tells content honest ArePiece old new (Ok xs)
  rows_told old new read xs is =
      follows content honest (λ t. IsRead key_of clean (piece column value (rows t))) ArePiece old new read xs
      (λ t h. let it = subst (IsRead key_of clean (piece column value (rows t))) is h in (it.0, ap (list_all clean) it.0 ∙ it.1))

-- The goods of all suppliers that have some.
use Rattle.std.specs.Prelude.{◌≡◌, ℕ, [], true, List, Option, None, Some}
use Rattle.std.specs.List.{AllByRecursion, list_all, list_any}
use Rattle.hub_sound.specs.Showing.{IsSettled, ShowsUnsound}
use Rattle.hub_sound.specs.declared.finding.Finding.{Finding}
use Rattle.hub_store.specs.Clean.{are_clean}
use Rattle.hub_tables.specs.Rows.{same}
use Rattle.hub_tables.specs.Sets.{Has, Rising}
use Rattle.hub_tables.specs.Tables.{Tables, view}
use Rattle.hub_pieces.specs.Pieces.{values_in}
use Rattle.hub_pieces.specs.Walk.{Told}
use Rattle.hub_pieces.specs.declared.piece_kind.PieceKind.TheVariants.{Line, Pallet}

-- each supplier of a line or a pallet is among them
pub record Covers (t : Tables) (glns : List (List ℕ)) : Type 0 where
  pub lines : list_all (λ line. list_any (same line.supplier) glns) t.lines ≡ true
  pub pallets : list_all (λ pallet. list_any (same pallet.supplier) glns) t.pallets ≡ true

-- in clean tables, the row shows that they are not sound
abbrev pub ShowsMisfit : Tables → Finding → Type 0
ShowsMisfit t found = Rising t → are_clean t ≡ true → ShowsUnsound t found.kind found.key

-- in clean tables, what each supplier with a line sees is settled
abbrev pub LinesAreSettled : Tables → Option Finding → Type 0
LinesAreSettled t =
    Told ((gln : List ℕ) → Has (values_in Line t) gln → Rising t → are_clean t ≡ true → IsSettled (view gln t)) (ShowsMisfit t)

-- in clean tables, what each supplier with a pallet and no line sees is settled
abbrev pub PalletsAreSettled : Tables → Option Finding → Type 0
PalletsAreSettled t =
    Told ((gln : List ℕ) → Has (values_in Pallet t) gln → Rising t → are_clean t ≡ true → (view gln t).lines ≡ []
    → IsSettled (view gln t)) (ShowsMisfit t)

-- what each supplier with a line or a pallet sees is settled; or a row shows that the tables are not sound
abbrev pub TellsOfAll : Tables → Option Finding → Type 0
TellsOfAll t None = (glns : List (List ℕ)) × Covers t glns × AllByRecursion (λ gln. IsSettled (view gln t)) glns
TellsOfAll t (Some found) = ShowsUnsound t found.kind found.key

-- Rows in pieces: those with one value in a column.
use Rattle.std.specs.Prelude.{◌≡◌, ℕ, List, map, filter, Option, None, Some}
use Rattle.std.specs.declared.cmp.Ordering.TheVariants.{Less}
use Rattle.hub_parties.specs.KeyOrder.{bytes_cmp}
use Rattle.hub_tables.specs.Rows.{same}
use Rattle.hub_tables.specs.Sets.{Has}
use Rattle.hub_tables.specs.Tables.{Tables}
use Rattle.hub_pieces.specs.declared.piece_kind.PieceKind.{PieceKind}
use Rattle.hub_pieces.specs.declared.piece_kind.PieceKind.TheVariants.{Order, Line, Advice, Pallet, Content, Receipt, Remembered, Mail}

-- the values of the column that divides the rows of a kind into pieces
abbrev pub values_in : PieceKind → Tables → List (List ℕ)
values_in Order t = map (λ row. row.supplier) t.orders
values_in Line t = map (λ row. row.supplier) t.lines
values_in Advice t = map (λ row. row.supplier) t.advices
values_in Pallet t = map (λ row. row.supplier) t.pallets
values_in Content t = map (λ row. row.sscc) t.contents
values_in Receipt t = map (λ row. row.sscc) t.receipts
values_in Remembered t = map (λ row. row.supplier) t.remembered
values_in Mail t = map (λ row. row.supplier) t.mail

-- the rows with this value in a column
abbrev pub piece : {X : Type 0} → (X → List ℕ) → List ℕ → List X → List X
piece column value rows = filter (λ row. same (column row) value) rows

-- the lowest of the values above this one; or there is none above it
abbrev pub IsNext : List ℕ → List (List ℕ) → Option (List ℕ) → Type 0
IsNext value values None = (other : List ℕ) → Has values other → ¬ (bytes_cmp value other ≡ Less)
IsNext value values (Some next) =
    Has values next × (bytes_cmp value next ≡ Less)
    × ((other : List ℕ) → Has values other → bytes_cmp value other ≡ Less → ¬ (bytes_cmp other next ≡ Less))

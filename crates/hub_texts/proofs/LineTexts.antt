-- Shows the text of an order line that is balanced.
use Rattle.std.proofs.Common.{◌≡◌, ℕ, List, [], ◌∷◌, ◌++◌, codes, refl, ap, ap₂, ◌∙◌, arith}
use Rattle.std.specs.Fmt.{decimal}
use Rattle.std.specs.List.{AllByRecursion, flat_map}
use Rattle.std.proofs.lemmas.Grind.{common_steps}
use Rattle.hub_tables.specs.State.{despatched}
use Rattle.hub_tables.specs.Tables.{Tables}
use Rattle.hub_tables.specs.declared.rows.LineRow.{LineRow}
use Rattle.hub_law.specs.HubRules.Sound.{Balanced}
use Rattle.hub_law.specs.StatusText.{line_text}
use Rattle.hub_law.specs.Widths.{left, right, line}
use Rattle.hub_texts.specs.Lines.{rest_of, text_with}

parted_text : (number gtin : List ℕ) (answer : ℕ) (n ordered open_qty refused cancelled sent : List ℕ)
    → (codes "L" ++ (0x20 ∷ number ++ (0x20 ∷ n ++ (0x20 ∷ gtin ++ 0x20 ∷ answer ∷ []))))
    ++ ((0x20 ∷ ordered ++ (0x20 ∷ open_qty ++ (0x20 ∷ refused ++ (0x20 ∷ cancelled ++ 0x20 ∷ sent)))) ++ 0x0A ∷ [])
    ≡ line (codes "L" ∷ number ∷ n ∷ gtin ∷ (answer ∷ []) ∷ ordered ∷ open_qty ∷ refused ∷ cancelled ∷ sent ∷ [])
parted_text number gtin answer n ordered open_qty refused cancelled sent = grind (arith, common_steps)

balanced_text : (state : Tables) (row : LineRow) → Balanced state row → text_with row (rest_of row) ≡ line_text state row
balanced_text state row balanced =
    let sent : rest_of row ≡ despatched state row = omega (arith, balanced) in
    ap (text_with row) sent
    ∙ parted_text (left 35 row.number) row.gtin row.answer (right 6 (decimal row.line)) (right 9 (decimal row.ordered))
    (right 9 (decimal row.open_qty)) (right 9 (decimal row.refused)) (right 9 (decimal row.cancelled))
    (right 9 (decimal (despatched state row)))

pub balanced_texts : (state : Tables) (rows : List LineRow)
    → AllByRecursion (Balanced state) rows
    → flat_map (λ row. text_with row (rest_of row)) rows ≡ flat_map (line_text state) rows
balanced_texts state [] all = refl
balanced_texts state (row ∷ rows) all = ap₂ (λ one more. one ++ more) (balanced_text state row all.0) (balanced_texts state rows all.1)

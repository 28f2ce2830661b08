-- Defines the text of an order line in the status report, without looking at contents of pallets.
use Rattle.std.specs.Prelude.{ℕ, ◌-◌, List, [], ◌∷◌, ◌++◌, codes}
use Rattle.std.specs.Fmt.{decimal}
use Rattle.hub_tables.specs.declared.rows.LineRow.{LineRow}
use Rattle.hub_law.specs.Widths.{left, right}

-- what remains of the ordered quantity without the open, refused and cancelled ones
abbrev pub rest_of : LineRow → ℕ
rest_of row = row.ordered - row.open_qty - row.refused - row.cancelled

-- a number right-aligned after a blank
abbrev pub number_text : ℕ → ℕ → List ℕ
number_text width number = 0x20 ∷ right width (decimal number)

-- the order number, the line number, the article and the answer
abbrev pub place_text : LineRow → List ℕ
place_text row =
    codes "L" ++ (0x20 ∷ left 35 row.number ++ (number_text 6 row.line ++ (0x20 ∷ row.gtin ++ 0x20 ∷ row.answer ∷ [])))

-- the quantities, the despatched one last
abbrev pub quantities_text : LineRow → ℕ → List ℕ
quantities_text row despatched =
    number_text 9 row.ordered ++ (number_text 9 row.open_qty ++ (number_text 9 row.refused
    ++ (number_text 9 row.cancelled ++ number_text 9 despatched)))

-- the text of a line of which this quantity is despatched
abbrev pub text_with : LineRow → ℕ → List ℕ
text_with row despatched = place_text row ++ (quantities_text row despatched ++ 0x0A ∷ [])

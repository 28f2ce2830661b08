-- Writes lines, and what the lines of messages share.
use Rattle.std.specs.Prelude.{ℕ, List, ◌++◌, codes, Option, Some, None}
use Rattle.std.specs.Fmt.{decimal}

-- a name with what comes before it, a value, the end of the line
unfoldable pub line : List ℕ → List ℕ → List ℕ
line name value = name ++ (value ++ codes "\n")

-- the segment that shows a fault, by its number, and the end of the line
abbrev pub segment_text : ℕ → List ℕ
segment_text number = codes " at segment " ++ (decimal number ++ codes "\n")

-- the first lines of a message
unfoldable pub head_lines : List ℕ → List ℕ → List ℕ → List ℕ → List ℕ
head_lines name number buyer supplier =
    line name number ++ (line (codes "  buyer ") buyer ++ line (codes "  supplier ") supplier)

abbrev pub buyer_text : Option (List ℕ) → List ℕ
buyer_text (Some buyer) = buyer
buyer_text None = codes "-"

abbrev pub line_text : Option ℕ → List ℕ
line_text (Some number) = decimal number
line_text None = codes "-"

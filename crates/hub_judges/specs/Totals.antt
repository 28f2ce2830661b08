-- Defines the totals received of an article, added line by line.
use Rattle.std.specs.Prelude.{ℕ, ◌+◌, ◌<◌, ◌^◌, List, [], ◌∷◌, if◌then◌else◌, Option, Some}
use Rattle.std.specs.Option.{unwrap_or}
use Rattle.edi_goods.specs.declared.receipt.ReceiptLine.{ReceiptLine}
use Rattle.hub_tables.specs.Rows.{same}
use Rattle.hub_rules.specs.ReceiptRules.{total}
use Rattle.hub_judges.specs.declared.totals.Total.{Total}

-- a row can hold the totals received of an article: each fits 32 bits
abbrev pub RowHolds : List ReceiptLine → List ℕ → Type 0
RowHolds lines gtin =
    (total (λ line. line.accepted) gtin lines < 2 ^ 32)
    × (total (λ line. line.returned) gtin lines < 2 ^ 32)
    × (total (λ line. line.destroyed) gtin lines < 2 ^ 32)

-- a row can hold the totals of each article
abbrev pub RowsHold : List ReceiptLine → Type 0
RowsHold lines = (gtin : List ℕ) → RowHolds lines gtin

abbrev pub nothing : Total
nothing = record { accepted = 0; returned = 0; destroyed = 0 }

-- the totals after one more line
abbrev pub with_line : Total → ReceiptLine → Total
with_line total line = record {
  accepted = total.accepted + line.accepted;
  returned = total.returned + line.returned;
  destroyed = total.destroyed + line.destroyed;
}

-- the totals of an article after these lines, if they were `before`
abbrev pub total_from : Option Total → List ℕ → List ReceiptLine → Option Total
total_from before article [] = before
total_from before article (line ∷ lines) =
    total_from (if same line.gtin article then Some (with_line (unwrap_or before nothing) line)
    else before) article lines

-- Shows which totals rows can hold.
use Rattle.std.proofs.Common.{◌≡◌, ℕ, ◌<◌, ◌≤◌, ◌^◌, Bool, true, nat_le, ◌⊎◌, inl, inr, List, [], ◌∷◌, map, refl, sym}
use Rattle.std.proofs.Common.{◌∙◌, ap, arith}
use Rattle.std.specs.List.{AllByRecursion, list_all}
use Rattle.std.proofs.lemmas.Bool.{and_parts, leb-true}
use Rattle.std.proofs.lemmas.List.Folds.{list_all-map}
use Rattle.edi_base.specs.Limits.{greatest}
use Rattle.edi_goods.specs.Receipt.{has_sums}
use Rattle.edi_goods.specs.Sums.{sums_within}
use Rattle.edi_goods.specs.declared.receipt.ReceiptLine.{ReceiptLine}
use Rattle.edi_goods.specs.declared.receipt.ReceiptUnit.{ReceiptUnit}
use Rattle.hub_tables.specs.Rows.{same}
use Rattle.hub_tables.specs.declared.change.Change.{Change}
use Rattle.hub_tables.specs.declared.change.Change.TheVariants.{AddReceipt}
use Rattle.hub_tables.specs.declared.rows.ReceiptRow.{ReceiptRow}
use Rattle.hub_tables.proofs.Lists.{decide, same_is}
use Rattle.hub_rules.specs.ReceiptRules.{total, new_receipt}
use Rattle.hub_judges.specs.Totals.{RowsHold}
use Rattle.hub_rules.proofs.Totalled.{sum_by_kind, sum_total, total_without}

-- totals of one quantity
module _ (kind : ReceiptLine → ℕ) where
  -- an article passes a test that the article of each line passes, or its total is 0
  passes_or_none : (p : List ℕ → Bool) (article : List ℕ) (lines : List ReceiptLine)
      → list_all (λ line. p line.gtin) lines ≡ true
      → (p article ≡ true) ⊎ (total kind article lines ≡ 0)
  passes_or_none p article [] all = inr refl
  passes_or_none p article (line ∷ lines) all =
      let parts = and_parts (p line.gtin) (list_all (λ line. p line.gtin) lines) all in
      elim (decide (same line.gtin article)) [
        | inl e ↦ inl (ap p (sym (same_is line.gtin article e)) ∙ parts.0)
        | inr e ↦ elim (passes_or_none p article lines parts.1) [
          | inl passes ↦ inl passes
          | inr none ↦ inr (total_without article line lines kind e ∙ none)
        ]
      ]

  within : (article : List ℕ) (lines : List ReceiptLine)
      → sums_within (map (λ (line : ReceiptLine). record { gtin = line.gtin; quantity = kind line }) lines) ≡ true
      → total kind article lines < 2 ^ 32
  within article lines all =
      let each : list_all (λ line. nat_le (sum_by_kind kind line.gtin lines) greatest) lines ≡ true =
      sym (list_all-map _ _ lines) ∙ all in
      elim (passes_or_none (λ gtin. nat_le (sum_by_kind kind gtin lines) greatest) article lines each) [
        | inl passes ↦ let t = sum_total kind article lines in
            let l = leb-true (sum_by_kind kind article lines) greatest passes in
            omega (arith, t, l)
        | inr none ↦ omega (arith, none)
      ]

-- rows can hold each total of an advice that was read
rows_hold : (lines : List ReceiptLine) → has_sums lines ≡ true → RowsHold lines
rows_hold lines sums gtin =
    let right = and_parts _ _ sums in
    let first = and_parts _ _ right.0 in (
      within (λ line. line.accepted) gtin lines first.0,
      within (λ line. line.returned) gtin lines first.1,
      within (λ line. line.destroyed) gtin lines right.1,
    )

pub units_hold : (units : List ReceiptUnit)
    → list_all (λ unit. has_sums unit.lines) units ≡ true
    → AllByRecursion (λ unit. RowsHold unit.lines) units
units_hold [] sums = tt
units_hold (unit ∷ units) sums =
    let parts = and_parts (has_sums unit.lines) (list_all (λ unit. has_sums unit.lines) units) sums in
    (rows_hold unit.lines parts.0, units_hold units parts.1)

-- Greater totals do not fit: no row is then what the rules say, because each number of a row has 32 bits.
accepted_by : Change → ℕ
accepted_by (AddReceipt row) = row.accepted
accepted_by other = 0

pub held_by_no_row : (sscc gtin : List ℕ) (lines : List ReceiptLine) (row : ReceiptRow)
    → row.accepted < 2 ^ 32
    → 2 ^ 32 ≤ total (λ line. line.accepted) gtin lines
    → ◌≡◌ {A = Change} (AddReceipt row) (new_receipt sscc lines gtin)
    → ⊥
unfolding accepted_by
held_by_no_row sscc gtin lines row small great is =
    let e : row.accepted ≡ total (λ line. line.accepted) gtin lines = ap accepted_by is in
    omega (arith, e, small, great)

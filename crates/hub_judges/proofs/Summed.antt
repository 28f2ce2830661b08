-- Shows that adding totals line by line gives the totals over all lines.
use Rattle.std.proofs.Common.{◌≡◌, ℕ, ◌+◌, ◌^◌, ◌<◌, true, false, cond, ◌⊎◌, inl, inr, List, [], ◌∷◌, length}
use Rattle.std.proofs.Common.{get_or, drop, Option, Some, None, refl, sym, ◌∙◌, ap, arith}
use Rattle.std.specs.Option.{unwrap_or}
use Rattle.std.proofs.lemmas.List.{drop_more}
use Rattle.edi_goods.specs.declared.receipt.ReceiptLine.{ReceiptLine}
use Rattle.hub_tables.specs.Rows.{same}
use Rattle.hub_tables.proofs.Lists.{decide, same_is, same_if}
use Rattle.hub_rules.specs.ReceiptRules.{total}
use Rattle.hub_rules.proofs.Totalled.{total_with, total_without}
use Rattle.hub_judges.specs.Totals.{RowHolds, nothing, with_line, total_from}
use Rattle.hub_judges.specs.declared.totals.Total.{Total}

-- a total, plus what the lines say of an article
abbrev pub with_lines : Total → List ℕ → List ReceiptLine → Total
with_lines before article lines = record {
  accepted = before.accepted + total (λ line. line.accepted) article lines;
  returned = before.returned + total (λ line. line.returned) article lines;
  destroyed = before.destroyed + total (λ line. line.destroyed) article lines;
}

alike : (a b : Total) → a.accepted ≡ b.accepted → a.returned ≡ b.returned → a.destroyed ≡ b.destroyed → a ≡ b
alike a b accepted returned destroyed =
    let made : ℕ → ℕ → ℕ → Total = λ x y z. record { accepted = x; returned = y; destroyed = z } in
    ap (λ x. made x a.returned a.destroyed) accepted
    ∙ ap (λ y. made b.accepted y a.destroyed) returned
    ∙ ap (made b.accepted b.returned) destroyed

module _ (article : List ℕ) (line : ReceiptLine) (lines : List ReceiptLine) where
  lines_with : (before : Total)
      → same line.gtin article ≡ true
      → with_lines (with_line before line) article lines ≡ with_lines before article (line ∷ lines)
  lines_with before e =
      let a = total_with article line lines (λ line. line.accepted) e in
      let r = total_with article line lines (λ line. line.returned) e in
      let d = total_with article line lines (λ line. line.destroyed) e in
      alike (with_lines (with_line before line) article lines) (with_lines before article (line ∷ lines))
      (omega (arith, a))
      (omega (arith, r)) (omega (arith, d))

  lines_without : (before : Total) → same line.gtin article ≡ false
      → with_lines before article lines ≡ with_lines before article (line ∷ lines)
  lines_without before e =
      let a = total_without article line lines (λ line. line.accepted) e in
      let r = total_without article line lines (λ line. line.returned) e in
      let d = total_without article line lines (λ line. line.destroyed) e in
      alike (with_lines before article lines) (with_lines before article (line ∷ lines)) (omega (arith, a))
      (omega (arith, r)) (omega (arith, d))

pub from_some : (before : Total) (article : List ℕ) (lines : List ReceiptLine)
    → total_from (Some before) article lines ≡ Some (with_lines before article lines)
from_some before article [] =
    ap Some (alike before (with_lines before article []) (omega arith) (omega arith) (omega arith))
from_some before article (line ∷ lines) =
    elim (decide (same line.gtin article)) [
      | inl e ↦ ap (λ v. total_from (cond v (Some (with_line before line)) (Some before)) article lines) e
          ∙ from_some (with_line before line) article lines
          ∙ ap Some (lines_with article line lines before e)
      | inr e ↦ ap (λ v. total_from (cond v (Some (with_line before line)) (Some before)) article lines) e
          ∙ from_some before article lines
          ∙ ap Some (lines_without article line lines before e)
    ]

-- the total of an article that occurs in the lines
pub over_lines : (article : List ℕ) (lines : List ReceiptLine) (sum : Total)
    → total_from None article lines ≡ Some sum
    → sum ≡ with_lines nothing article lines
over_lines article [] sum h = cc
over_lines article (line ∷ lines) sum h =
    elim (decide (same line.gtin article)) [
      | inl e ↦
          let f : Some sum ≡ Some (with_lines (with_line nothing line) article lines) =
          sym h
          ∙ ap (λ v. total_from (cond v (Some (with_line nothing line)) None) article lines) e
          ∙ from_some (with_line nothing line) article lines in
          let g = lines_with article line lines nothing e in
          cc
      | inr e ↦
          over_lines article lines sum
          (sym (ap (λ v. total_from (cond v (Some (with_line nothing line)) None) article lines) e) ∙ h)
          ∙ lines_without article line lines nothing e
    ]

-- a row can hold the total plus one line
pub record Fits (before : Total) (line : ReceiptLine) : Type 0 where
  pub accepted : before.accepted + line.accepted < 2 ^ 32
  pub returned : before.returned + line.returned < 2 ^ 32
  pub destroyed : before.destroyed + line.destroyed < 2 ^ 32

-- the line at a position, and the rest after it
module _ (lines : List ReceiptLine) (i : ℕ) (line : ReceiptLine) (inside : i < length lines)
    (at : line ≡ get_or lines i line) where
  pub rest_from : drop i lines ≡ line ∷ drop (i + 1) lines
  rest_from = drop_more lines i line inside ∙ ap (λ one. one ∷ drop (i + 1) lines) (sym at)

  pub fits : (before : Option Total)
      → RowHolds lines line.gtin
      → total_from None line.gtin lines ≡ total_from before line.gtin (drop i lines)
      → Fits (unwrap_or before nothing) line
  fits before holds so_far =
      let next : Total = with_line (unwrap_or before nothing) line in
      let rest = drop (i + 1) lines in
      let whole : total_from None line.gtin lines ≡ Some (with_lines next line.gtin rest) =
      so_far
      ∙ ap (total_from before line.gtin) rest_from
      ∙ ap (λ v. total_from (cond v (Some next) before) line.gtin rest) (same_if line.gtin line.gtin refl)
      ∙ from_some next line.gtin rest in
      let over = over_lines line.gtin lines (with_lines next line.gtin rest) whole in
      let a = holds.0 in
      let r = holds.1 in
      let d = holds.2 in
      let of_a = ap (λ (t : Total). t.accepted) over in
      let of_r = ap (λ (t : Total). t.returned) over in
      let of_d = ap (λ (t : Total). t.destroyed) over in
      record { accepted = omega (arith, a, of_a); returned = omega (arith, r, of_r); destroyed = omega (arith, d, of_d) }

  -- the totals after one more line
  pub totals_next : (old new : List ℕ → Option Total) (sum : Total)
      → ((article : List ℕ) → new article ≡ cond (same line.gtin article) (Some sum) (old article))
      → sum ≡ with_line (unwrap_or (old line.gtin) nothing) line
      → ((article : List ℕ) → total_from None article lines ≡ total_from (old article) article (drop i lines))
      → (article : List ℕ)
      → total_from None article lines ≡ total_from (new article) article (drop (i + 1) lines)
  totals_next old new sum becomes grown so_far article =
      so_far article
      ∙ ap (total_from (old article) article) rest_from
      ∙ ap (λ v. total_from v article (drop (i + 1) lines))
      (agree (decide (same line.gtin article)) ∙ sym (becomes article))
    where
      agree : ((same line.gtin article ≡ true) ⊎ (same line.gtin article ≡ false))
          → cond (same line.gtin article) (Some (with_line (unwrap_or (old article) nothing) line)) (old article)
          ≡ cond (same line.gtin article) (Some sum) (old article)
      agree (inl e) =
          ap (λ t. cond (same line.gtin article) (Some t) (old article))
          (sym (grown ∙ ap (λ one. with_line (unwrap_or (old one) nothing) line) (same_is line.gtin article e)))
      agree (inr e) =
          ap (λ v. cond v (Some (with_line (unwrap_or (old article) nothing) line)) (old article)) e
          ∙ sym (ap (λ v. cond v (Some sum) (old article)) e)

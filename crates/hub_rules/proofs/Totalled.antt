-- Provides lemmas about the totals of an article over the lines of a unit, and about the articles of these lines.
use Rattle.std.proofs.Common.{◌≡◌, ℕ, ◌+◌, true, false, cond, inl, inr, List}
use Rattle.std.proofs.Common.{[], ◌∷◌, filter, sum_by, refl, ◌∙◌, ap, arith, map, not}
use Rattle.std.proofs.lemmas.List.Sums.{sum_by-cons}
use Rattle.edi_documents.specs.EdiGoods.declared.receipt.ReceiptLine.{ReceiptLine}
use Rattle.hub_tables.specs.Rows.{same}
use Rattle.hub_tables.proofs.Lists.{decide, all_filter}
use Rattle.std.specs.List.{AllByRecursion}
use Rattle.edi_documents.specs.EdiGoods.Sums.{sum_of}
use Rattle.hub_rules.specs.ReceiptRules.{gtins, total}

-- Totals of an article.

module _ (article : List ℕ) (line : ReceiptLine) (lines : List ReceiptLine) where
  pub total_with : (kind : ReceiptLine → ℕ) → same line.gtin article ≡ true → total kind article
      (line ∷ lines) ≡ kind line + total kind article lines
  total_with kind e =
      ap (λ v.
      sum_by kind (cond v (line ∷ filter (λ line. same line.gtin article) lines)
      (filter (λ line. same line.gtin article) lines))) e
      ∙ sum_by-cons kind line (filter (λ line. same line.gtin article) lines)

  pub total_without : (kind : ReceiptLine → ℕ) → same line.gtin article ≡ false → total kind article
      (line ∷ lines) ≡ total kind article lines
  total_without kind e =
      ap (λ v.
      sum_by kind (cond v (line ∷ filter (λ line. same line.gtin article) lines)
      (filter (λ line. same line.gtin article) lines))) e

-- totals of one quantity
module _ (kind : ReceiptLine → ℕ) where
  abbrev pub sum_by_kind : List ℕ → List ReceiptLine → ℕ
  sum_by_kind article lines =
      sum_of article (map (λ (line : ReceiptLine). record { gtin = line.gtin; quantity = kind line }) lines)

  pub sum_total : (article : List ℕ) (lines : List ReceiptLine) → sum_by_kind article lines ≡ total kind article lines
  sum_total article [] = refl
  sum_total article (line ∷ lines) =
      let ih = sum_total article lines in
      elim (decide (same line.gtin article)) [
        | inl e ↦ let t = total_with article line lines kind e in
            ap (λ v. cond v (kind line) 0 + sum_by_kind article lines) e ∙ omega (arith, t, ih)
        | inr e ↦ let t = total_without article line lines kind e in
            ap (λ v. cond v (kind line) 0 + sum_by_kind article lines) e ∙ omega (arith, t, ih)
      ]

-- Articles.

-- what holds for the article of each line holds for each article
pub all_gtins : (P : List ℕ → Type 0) (lines : List ReceiptLine) → AllByRecursion (λ line. P line.gtin) lines
    → AllByRecursion P (gtins lines)
all_gtins P [] all = tt
all_gtins P (line ∷ lines) all =
    (all.0, all_filter P (λ gtin. not (same gtin line.gtin)) (gtins lines) (all_gtins P lines all.1))

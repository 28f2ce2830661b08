-- Provides lemmas about the sums over the lines of an article.
use Rattle.std.proofs.Common.{◌≡◌, ℕ, ◌+◌, ◌≤◌, ◌⊎◌, inl, inr, List, [], ◌∷◌, filter, map, refl, sym, ap, subst, ◌∙◌, arith}
use Rattle.std.specs.Prelude.{nat_le, Decides}
use Rattle.std.specs.List.{AllByRecursion}
use Rattle.std.specs.Str.{bytes_eq}
use Rattle.std.proofs.lemmas.Bool.{cases_Bool}
use Rattle.std.proofs.lemmas.Bool.Decides.{Decides-and, Decides-like, Decides-at}
use Rattle.std.proofs.lemmas.Slice.Eq.{bytes_eq-Decides}
use Rattle.std.proofs.lemmas.List.Folds.{list_all-map}
use Rattle.std.proofs.lemmas.List.Sums.{sum_by-cons}
use Rattle.edi_base.specs.Limits.{greatest}
use Rattle.edi_goods.specs.Receipt.{has_sums}
use Rattle.edi_goods.specs.Sums.{sum_of, sums_within}
use Rattle.edi_goods.specs.declared.receipt.ReceiptLine.{ReceiptLine}
use Rattle.edi_law.specs.Receipt.{total, AreWithin}
use Rattle.edi_law.proofs.Deciding.{Decides-leb, Decides-all}

module _ (q : ReceiptLine → ℕ) where
  abbrev summed : List ℕ → List ReceiptLine → ℕ
  summed article lines = sum_of article (map (λ (line : ReceiptLine). record { gtin = line.gtin; quantity = q line }) lines)

  summed_is : (article : List ℕ) (lines : List ReceiptLine) → summed article lines ≡ total q article lines
  summed_is article [] = refl
  summed_is article (line ∷ lines) =
      let later = summed_is article lines in
      elim (cases_Bool (bytes_eq line.gtin article)) [
        | inl is ↦ rw is (ap (λ rest. q line + rest) later ∙ sym (sum_by-cons q line (filter (λ one. bytes_eq one.gtin article) lines)))
        | inr not_ ↦ rw not_ (omega (arith, later))
      ]

  other_articles : (T : List ℕ → ℕ) (article : List ℕ) (lines : List ReceiptLine)
      → AllByRecursion (λ line. T line.gtin ≤ greatest) lines
      → (total q article lines ≡ 0) ⊎ (T article ≤ greatest)
  other_articles T article [] h = inl refl
  other_articles T article (line ∷ lines) h =
      elim (cases_Bool (bytes_eq line.gtin article)) [
        | inl is ↦ inr (subst (λ one. T one ≤ greatest) ((bytes_eq-Decides line.gtin article).0 is) h.0)
        | inr not_ ↦ rw not_ (other_articles T article lines h.1)
      ]

  each_article : (lines : List ReceiptLine)
      → AllByRecursion (λ line. summed line.gtin lines ≤ greatest) lines
      → (article : List ℕ)
      → total q article lines ≤ greatest
  each_article lines h article =
      elim (other_articles (λ one. summed one lines) article lines h) [
        | inl none ↦ omega (arith, none)
        | inr small ↦ subst (λ n. n ≤ greatest) (summed_is article lines) small
      ]

  each_line : (T : List ℕ → ℕ)
      → ((article : List ℕ) → T article ≤ greatest)
      → (lines : List ReceiptLine)
      → AllByRecursion (λ line. T line.gtin ≤ greatest) lines
  each_line T h [] = tt
  each_line T h (line ∷ lines) = (h line.gtin, each_line T h lines)

  Decides-sums : (lines : List ReceiptLine)
      → Decides (sums_within (map (λ (line : ReceiptLine). record { gtin = line.gtin; quantity = q line }) lines))
      ((article : List ℕ) → total q article lines ≤ greatest)
  Decides-sums lines =
      Decides-like _ (each_article lines)
      (λ h. each_line (λ article. summed article lines) (λ article. subst (λ n. n ≤ greatest) (sym (summed_is article lines)) (h article))
      lines)
      (Decides-at _ _ (list_all-map _ _ lines)
      (Decides-all (λ line. nat_le (summed line.gtin lines) greatest) (λ line. summed line.gtin lines ≤ greatest)
      (λ line. Decides-leb (summed line.gtin lines) greatest) lines))

pub Decides-within : (lines : List ReceiptLine) → Decides (has_sums lines) (AreWithin lines)
Decides-within lines =
    Decides-like (has_sums lines)
    (λ h. record { accepted = h.0.0; returned = h.0.1; destroyed = h.1 })
    (λ (h : AreWithin lines). ((h.accepted, h.returned), h.destroyed))
    (Decides-and _ _
    (Decides-and _ _ (Decides-sums (λ line. line.accepted) lines) (Decides-sums (λ line. line.returned) lines))
    (Decides-sums (λ line. line.destroyed) lines))

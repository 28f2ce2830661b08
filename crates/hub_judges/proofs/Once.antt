-- Follows the articles of lines, each once, and those that are still to come.
use Rattle.std.proofs.Common.{◌≡◌, ℕ, ◌+◌, ◌<◌, Bool, true, cond, not, is_some, inl, inr, List, [], ◌∷◌, length, get_or}
use Rattle.std.proofs.Common.{drop, filter, Option, Some, None, refl, sym, ◌∙◌, ap, ap₂, arith}
use Rattle.std.specs.List.{AllByRecursion}
use Rattle.edi_base.proofs.Twice.{bytes_eq-sym}
use Rattle.edi_goods.specs.declared.receipt.ReceiptLine.{ReceiptLine}
use Rattle.hub_tables.specs.Rows.{same}
use Rattle.hub_tables.specs.declared.change.Change.{Change}
use Rattle.hub_tables.specs.declared.change.Change.TheVariants.{AddReceipt}
use Rattle.hub_tables.proofs.Lists.{decide, same_if, all_weaker}
use Rattle.hub_rules.specs.ReceiptRules.{gtins, total, new_receipt}
use Rattle.hub_rules.proofs.Totalled.{all_gtins}
use Rattle.hub_judges.specs.Totals.{nothing, with_line, total_from}
use Rattle.hub_judges.specs.declared.totals.Total.{Total}
use Rattle.hub_judges.proofs.Summed.{from_some, over_lines, rest_from}

-- the articles of lines whose total is still to be used
abbrev pub left : (List ℕ → Option Total) → List ReceiptLine → List (List ℕ)
left totals lines = filter (λ gtin. is_some (totals gtin)) (gtins lines)

keeps_all : {X : Type 0} (p : X → Bool) (xs : List X) → AllByRecursion (λ x. p x ≡ true) xs → filter p xs ≡ xs
keeps_all p [] all = refl
keeps_all p (x ∷ xs) all = ap₂ (λ v rest. cond v (x ∷ rest) rest) all.0 (keeps_all p xs all.1)

abbrev ComesAmong : List ReceiptLine → List ℕ → Type 0
ComesAmong lines article = is_some (total_from None article lines) ≡ true

comes_here : (line : ReceiptLine) (lines : List ReceiptLine) (article : List ℕ) → same line.gtin article ≡ true → ComesAmong
    (line ∷ lines) article
comes_here line lines article e =
    ap is_some (ap (λ v. total_from (cond v (Some (with_line nothing line)) None) article lines) e
    ∙ from_some (with_line nothing line) article lines)

comes_later : (line : ReceiptLine) (lines : List ReceiptLine) (article : List ℕ) → ComesAmong lines article → ComesAmong
    (line ∷ lines) article
comes_later line lines article h =
    elim (decide (same line.gtin article)) [
      | inl e ↦ comes_here line lines article e
      | inr e ↦ ap (λ v. is_some (total_from (cond v (Some (with_line nothing line)) None) article lines)) e ∙ h
    ]

all_come : (lines : List ReceiptLine) → AllByRecursion (λ line. ComesAmong lines line.gtin) lines
all_come [] = tt
all_come (line ∷ lines) = (
  comes_here line lines line.gtin (same_if line.gtin line.gtin refl),
  all_weaker (λ other. ComesAmong lines other.gtin) (λ other. ComesAmong (line ∷ lines) other.gtin)
      (λ other h. comes_later line lines other.gtin h) lines (all_come lines),
)

-- at first, every article is still to come
pub all_left : (totals : List ℕ → Option Total) (lines : List ReceiptLine)
    → ((article : List ℕ) → totals article ≡ total_from None article lines)
    → left totals lines ≡ gtins lines
all_left totals lines are =
    keeps_all (λ gtin. is_some (totals gtin)) (gtins lines) (all_gtins (λ gtin. is_some (totals gtin) ≡ true) lines
    (all_weaker (λ line. ComesAmong lines line.gtin) (λ line. is_some (totals line.gtin) ≡ true)
    (λ line h. ap is_some (are line.gtin) ∙ h) lines (all_come lines)))

-- the receipt of an article is made from its total
pub receipt_is : (sscc : List ℕ) (lines : List ReceiptLine) (gtin : List ℕ) (sum : Total)
    → total_from None gtin lines ≡ Some sum
    → ◌≡◌ {A = Change} (AddReceipt
    (record { sscc = sscc; gtin = gtin; accepted = sum.accepted; returned = sum.returned; destroyed = sum.destroyed }))
    (new_receipt sscc lines gtin)
receipt_is sscc lines gtin sum h =
    let made : ℕ → ℕ → ℕ → Change =
    λ a r d. AddReceipt (record { sscc = sscc; gtin = gtin; accepted = a; returned = r; destroyed = d }) in
    let over = over_lines gtin lines sum h in
    let of_a = ap (λ (t : Total). t.accepted) over in
    let of_r = ap (λ (t : Total). t.returned) over in
    let of_d = ap (λ (t : Total). t.destroyed) over in
    let a : sum.accepted ≡ total (λ line. line.accepted) gtin lines = omega (arith, of_a) in
    let r : sum.returned ≡ total (λ line. line.returned) gtin lines = omega (arith, of_r) in
    let d : sum.destroyed ≡ total (λ line. line.destroyed) gtin lines = omega (arith, of_d) in
    ap (λ v. made v sum.returned sum.destroyed) a
    ∙ ap (λ v. made (total (λ line. line.accepted) gtin lines) v sum.destroyed) r
    ∙ ap (made (total (λ line. line.accepted) gtin lines) (total (λ line. line.returned) gtin lines)) d

-- an article whose total is used
module _ (old new : List ℕ → Option Total) (taken : List ℕ)
    (becomes : (article : List ℕ) → new article ≡ cond (same taken article) None (old article)) where
  left_without : (gtins : List (List ℕ))
      → filter (λ gtin. is_some (old gtin)) (filter (λ gtin. not (same gtin taken)) gtins)
      ≡ filter (λ gtin. is_some (new gtin)) gtins
  left_without [] = refl
  left_without (gtin ∷ gtins) =
      let ih = left_without gtins in
      let turn = bytes_eq-sym taken gtin in
      elim (decide (same gtin taken)) [
        | inl e ↦
            let none : new gtin ≡ None = becomes gtin ∙ ap (λ v. cond v None (old gtin)) (turn ∙ e) in
            ap (λ v. filter (λ gtin. is_some (old gtin))
            (cond (not v) (gtin ∷ filter (λ gtin. not (same gtin taken)) gtins)
            (filter (λ gtin. not (same gtin taken)) gtins))) e
            ∙ ih
            ∙ sym (ap (λ v. cond (is_some v) (gtin ∷ filter (λ gtin. is_some (new gtin)) gtins)
            (filter (λ gtin. is_some (new gtin)) gtins)) none)
        | inr e ↦
            let some : old gtin ≡ new gtin = sym (becomes gtin ∙ ap (λ v. cond v None (old gtin)) (turn ∙ e)) in
            ap (λ v. filter (λ gtin. is_some (old gtin))
            (cond (not v) (gtin ∷ filter (λ gtin. not (same gtin taken)) gtins)
            (filter (λ gtin. not (same gtin taken)) gtins))) e
            ∙ ap₂ (λ v rest. cond (is_some v) (gtin ∷ rest) rest) some ih
      ]

  -- the remaining totals are the same as before
  pub still_told : (lines : List ReceiptLine)
      → ((article : List ℕ) (sum : Total) → old article ≡ Some sum → total_from None article lines ≡ Some sum)
      → (article : List ℕ) (sum : Total)
      → new article ≡ Some sum
      → total_from None article lines ≡ Some sum
  still_told lines told article sum h =
      elim (decide (same taken article)) [
        | inl e ↦ let none : None ≡ Some sum = sym (becomes article ∙ ap (λ v. cond v None (old article)) e) ∙ h in cc
        | inr e ↦ told article sum (sym (becomes article ∙ ap (λ v. cond v None (old article)) e) ∙ h)
      ]

-- a line whose article is used
module _ (lines : List ReceiptLine) (i : ℕ) (line : ReceiptLine) (inside : i < length lines)
    (at : line ≡ get_or lines i line) (old new : List ℕ → Option Total)
    (becomes : (article : List ℕ) → new article ≡ cond (same line.gtin article) None (old article)) where
  left_from : left old (drop i lines)
      ≡ cond (is_some (old line.gtin)) (line.gtin ∷ left new (drop (i + 1) lines)) (left new (drop (i + 1) lines))
  left_from =
      ap (left old) (rest_from lines i line inside at)
      ∙ ap (λ rest. cond (is_some (old line.gtin)) (line.gtin ∷ rest) rest)
      (left_without old new line.gtin becomes (gtins (drop (i + 1) lines)))

  pub left_taken : (sum : Total) → old line.gtin ≡ Some sum → left old (drop i lines) ≡ line.gtin ∷ left new
      (drop (i + 1) lines)
  left_taken sum e = left_from ∙ ap
      (λ v. cond (is_some v) (line.gtin ∷ left new (drop (i + 1) lines)) (left new (drop (i + 1) lines))) e

  pub left_passed : old line.gtin ≡ None → left old (drop i lines) ≡ left new (drop (i + 1) lines)
  left_passed e = left_from ∙ ap
      (λ v. cond (is_some v) (line.gtin ∷ left new (drop (i + 1) lines)) (left new (drop (i + 1) lines))) e

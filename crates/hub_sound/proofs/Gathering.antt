-- What is on the pallets of a supplier, gathered pallet by pallet, is what it sees.
use Rattle.std.proofs.Common.{◌≡◌, ◌⊎◌, ℕ, ◌+◌, ◌==◌, Bool, true, false, ◌&&◌, ◌||◌, cond, inl, inr, List, [], ◌∷◌, ◌++◌, filter}
use Rattle.std.proofs.Common.{sum_by, Option, Some, None, refl, sym, ◌∙◌, ap, ap₂, arith}
use Rattle.std.specs.List.{list_all, list_any}
use Rattle.std.specs.declared.cmp.Ordering.TheVariants.{Less}
use Rattle.std.proofs.lemmas.List.Sums.{sum_by-cons}
use Rattle.hub_parties.specs.KeyOrder.{Rises}
use Rattle.hub_rules.proofs.Prefixes.{holds_seen}
use Rattle.hub_tables.specs.Rows.{same, pallet_cmp}
use Rattle.hub_tables.specs.Sets.{Has, Rising}
use Rattle.hub_tables.specs.State.{names, despatched, contents_of}
use Rattle.hub_tables.specs.Tables.{Tables, holds, view}
use Rattle.hub_tables.specs.declared.rows.LineRow.{LineRow}
use Rattle.hub_tables.specs.declared.rows.ContentRow.{ContentRow}
use Rattle.hub_tables.specs.declared.rows.PalletRow.{PalletRow}
use Rattle.hub_tables.proofs.KeyOrder.{rises_filter}
use Rattle.hub_tables.proofs.Lists.{decide, same_is, same_if, all_passes, filter_alike, all_always}
use Rattle.hub_tables.proofs.Members.{all_of, all_if, none_if, has_filter}
use Rattle.hub_sound.specs.Finding.{RowKey}
use Rattle.hub_sound.specs.Goods.{gathered, goods_in, TellsSettled, TellsOfSupplier, ShowsUnsettled}
use Rattle.hub_sound.specs.Showing.{IsSettled, ShowsUnsound, has_line, is_balanced}
use Rattle.hub_sound.specs.declared.finding.Finding.{Finding}
use Rattle.hub_sound.specs.declared.finding.RowKind.{RowKind}
use Rattle.hub_sound.specs.declared.finding.RowKind.TheVariants.{Hub, Supplier, Prefix, Order, Line, Advice, Pallet}
use Rattle.hub_sound.specs.declared.finding.RowKind.TheVariants.{Content, Receipt, Remembered, Mail}
use Rattle.hub_sound.proofs.Deciding.{all_true, true_all, from_filter, not_tied, text_tied}

-- Members.

has_either : {X : Type 0} (xs ys : List X) (x : X) → Has (xs ++ ys) x → Has xs x ⊎ Has ys x
has_either [] ys x there = inr there
has_either (y ∷ xs) ys x there = elim there [
  | inl e ↦ inl (inl e)
  | inr later ↦ elim (has_either xs ys x later) [ inl one ↦ inl (inr one) | inr other ↦ inr other ]
]

has_left : {X : Type 0} (xs ys : List X) (x : X) → Has xs x → Has (xs ++ ys) x
has_left [] ys x there = absurd there
has_left (y ∷ xs) ys x there = elim there [ inl e ↦ inl e | inr later ↦ inr (has_left xs ys x later) ]

has_right : {X : Type 0} (xs ys : List X) (x : X) → Has ys x → Has (xs ++ ys) x
has_right [] ys x there = there
has_right (y ∷ xs) ys x there = inr (has_right xs ys x there)

-- one of the pallets has the SSCC
abbrev on_some : List PalletRow → List ℕ → Bool
on_some pallets sscc = list_any (λ pallet. same pallet.sscc sscc) pallets

or_left : (b c : Bool) → b ≡ true → (b || c) ≡ true
or_left b c h = ap (λ v. v || c) h

or_right : (b c : Bool) → c ≡ true → (b || c) ≡ true
or_right true c h = refl
or_right false c h = h

module _ (t : Tables) where
  is_gathered : (ps : List PalletRow) (c : ContentRow) → Has (gathered t ps) c → Has t.contents c × (on_some ps c.sscc ≡ true)
  is_gathered [] c there = absurd there
  is_gathered (p ∷ ps) c there = elim (has_either (contents_of t p.sscc) (gathered t ps) c there) [
    | inl here ↦
        let same_text = all_of (λ c. same c.sscc p.sscc ≡ true) (contents_of t p.sscc)
        (all_passes (λ c. same c.sscc p.sscc) t.contents) c here in (
          from_filter (λ c. same c.sscc p.sscc) t.contents c here,
          or_left (same p.sscc c.sscc) (on_some ps c.sscc) (same_if p.sscc c.sscc (sym (same_is c.sscc p.sscc same_text))),
        )
    | inr later ↦ let it = is_gathered ps c later in (it.0, or_right (same p.sscc c.sscc) (on_some ps c.sscc) it.1)
  ]

  comes_gathered : (ps : List PalletRow) (c : ContentRow) → Has t.contents c → on_some ps c.sscc ≡ true → Has (gathered t ps) c
  comes_gathered [] c there h = cc
  comes_gathered (p ∷ ps) c there h = elim (decide (same p.sscc c.sscc)) [
    | inl e ↦ has_left (contents_of t p.sscc) (gathered t ps) c
        (has_filter (λ c. same c.sscc p.sscc) t.contents c there (same_if c.sscc p.sscc (sym (same_is p.sscc c.sscc e))))
    | inr e ↦ has_right (contents_of t p.sscc) (gathered t ps) c
        (comes_gathered ps c there (sym (ap (λ v. v || on_some ps c.sscc) e) ∙ h))
  ]

-- Sums.

module _ {X : Type 0} (f : X → ℕ) (q : X → Bool) where
  abbrev part : List X → ℕ
  part xs = sum_by f (filter q xs)

  part_in : (x : X) (xs : List X) → q x ≡ true → part (x ∷ xs) ≡ f x + part xs
  part_in x xs e = ap (λ v. sum_by f (cond v (x ∷ filter q xs) (filter q xs))) e ∙ sum_by-cons f x (filter q xs)

  part_out : (x : X) (xs : List X) → q x ≡ false → part (x ∷ xs) ≡ part xs
  part_out x xs e = ap (λ v. sum_by f (cond v (x ∷ filter q xs) (filter q xs))) e

  part_both : (xs ys : List X) → part (xs ++ ys) ≡ part xs + part ys
  part_both [] ys = omega arith
  part_both (x ∷ xs) ys =
      let rest = part_both xs ys in
      elim (decide (q x)) [
        | inl e ↦ let a = part_in x (xs ++ ys) e in let b = part_in x xs e in omega (arith, a, b, rest)
        | inr e ↦ let a = part_out x (xs ++ ys) e in let b = part_out x xs e in omega (arith, a, b, rest)
      ]

  -- those that pass one of two tests of which none passes both
  module _ (a b : X → Bool) (apart : (x : X) → a x ≡ true → b x ≡ false) where
    abbrev kept : (X → Bool) → List X → ℕ
    kept p xs = part (filter p xs)

    kept_in : (p : X → Bool) (x : X) (xs : List X) → p x ≡ true → kept p (x ∷ xs) ≡ part (x ∷ filter p xs)
    kept_in p x xs e = ap (λ v. part (cond v (x ∷ filter p xs) (filter p xs))) e

    kept_out : (p : X → Bool) (x : X) (xs : List X) → p x ≡ false → kept p (x ∷ xs) ≡ kept p xs
    kept_out p x xs e = ap (λ v. part (cond v (x ∷ filter p xs) (filter p xs))) e

    -- an element more in front of either
    same_step : (x : X) (xs ys zs : List X) → part xs ≡ part ys + part zs → part (x ∷ xs) ≡ part (x ∷ ys) + part zs
    same_step x xs ys zs rest = elim (decide (q x)) [
      | inl e ↦ let l = part_in x xs e in let r = part_in x ys e in omega (arith, l, r, rest)
      | inr e ↦ let l = part_out x xs e in let r = part_out x ys e in omega (arith, l, r, rest)
    ]

    turned : (m n : ℕ) → m + n ≡ n + m
    turned m n = omega arith

    kept_split : (xs : List X) → kept (λ x. a x || b x) xs ≡ kept a xs + kept b xs
    kept_split [] = omega arith
    kept_split (x ∷ xs) =
        let rest = kept_split xs in
        elim (decide (a x)) [
          | inl e ↦
              kept_in (λ x. a x || b x) x xs (or_left (a x) (b x) e)
              ∙ same_step x (filter (λ x. a x || b x) xs) (filter a xs) (filter b xs) rest
              ∙ ap₂ (λ m n. m + n) (sym (kept_in a x xs e)) (sym (kept_out b x xs (apart x e)))
          | inr e ↦ elim (decide (b x)) [
            | inl g ↦
                kept_in (λ x. a x || b x) x xs (or_right (a x) (b x) g)
                ∙ same_step x (filter (λ x. a x || b x) xs) (filter b xs) (filter a xs) (rest ∙ turned (kept a xs) (kept b xs))
                ∙ turned (part (x ∷ filter b xs)) (kept a xs)
                ∙ ap₂ (λ m n. m + n) (sym (kept_out a x xs e)) (sym (kept_in b x xs g))
            | inr g ↦
                kept_out (λ x. a x || b x) x xs (ap₂ (λ v w. v || w) e g)
                ∙ rest
                ∙ ap₂ (λ m n. m + n) (sym (kept_out a x xs e)) (sym (kept_out b x xs g))
          ]
        ]

module _ (t : Tables) (f : ContentRow → ℕ) (q : ContentRow → Bool) where
  gathered_sum : (ps : List PalletRow) → Rises pallet_cmp ps
      → part f q (gathered t ps) ≡ part f q (filter (λ c. on_some ps c.sscc) t.contents)
  gathered_sum [] rises = sym (ap (part f q) (none t.contents))
    where
      none : (cs : List ContentRow) → filter (λ c. false) cs ≡ []
      none [] = refl
      none (c ∷ cs) = none cs
  gathered_sum (p ∷ ps) rises =
      part_both f q (contents_of t p.sscc) (gathered t ps)
      ∙ ap₂ (λ m n. m + n)
      (ap (part f q) (filter_alike (λ c. same c.sscc p.sscc) (λ c. same p.sscc c.sscc) t.contents
      (all_always (λ c. same c.sscc p.sscc ≡ same p.sscc c.sscc) (λ c. turn c.sscc p.sscc) t.contents)))
      (gathered_sum ps rises.1)
      ∙ sym (kept_split f q (λ c. same p.sscc c.sscc) (λ c. on_some ps c.sscc) apart t.contents)
    where
      turn : (x y : List ℕ) → same x y ≡ same y x
      turn x y = elim (decide (same x y)) [
        | inl e ↦ e ∙ sym (same_if y x (sym (same_is x y e)))
        | inr e ↦ elim (decide (same y x)) [
          | inl g ↦ absurd (let both = same_if x y (sym (same_is y x g)) in cc)
          | inr g ↦ e ∙ sym g
        ]
      ]

      apart : (c : ContentRow) → same p.sscc c.sscc ≡ true → on_some ps c.sscc ≡ false
      apart c h = none_if (λ other. same other.sscc c.sscc) ps (λ other there. elim (decide (same other.sscc c.sscc)) [
        | inl e ↦ absurd (not_tied (pallet_cmp p other) (all_of (λ other. pallet_cmp p other ≡ Less) ps rises.0 other there)
            (text_tied p.sscc other.sscc (same_is p.sscc c.sscc h ∙ sym (same_is other.sscc c.sscc e))))
        | inr e ↦ e
      ])

-- What is found of them is so of what the supplier sees.

all_alike : {X : Type 0} (p q : X → Bool) → ((x : X) → p x ≡ q x) → (xs : List X) → list_all p xs ≡ list_all q xs
all_alike p q f [] = refl
all_alike p q f (x ∷ xs) = ap₂ (λ v w. v && w) (f x) (all_alike p q f xs)

module _ (gln : List ℕ) (t : Tables) (rising : Rising t) where
  own : (sscc : List ℕ) → on_some (view gln t).pallets sscc ≡ holds gln t.pallets sscc
  own sscc = holds_seen gln t.pallets sscc

  despatched_alike : (line : LineRow) → despatched (goods_in gln t) line ≡ despatched (view gln t) line
  despatched_alike line =
      gathered_sum t (λ c. c.quantity) (names line) (view gln t).pallets
      (rises_filter pallet_cmp (λ p. same p.supplier gln) t.pallets rising.pallets)
      ∙ ap (λ cs. sum_by (λ (c : ContentRow). c.quantity) (filter (names line) cs))
      (filter_alike (λ c. on_some (view gln t).pallets c.sscc) (λ c. holds gln t.pallets c.sscc) t.contents
      (all_always (λ c. on_some (view gln t).pallets c.sscc ≡ holds gln t.pallets c.sscc) (λ c. own c.sscc) t.contents))

  balanced_alike : (line : LineRow) → is_balanced (goods_in gln t) line ≡ is_balanced (view gln t) line
  balanced_alike line = ap (λ n. line.ordered == line.open_qty + line.refused + line.cancelled + n) (despatched_alike line)

  settled : IsSettled (goods_in gln t) → IsSettled (view gln t)
  settled it = record {
    contents = true_all (has_line (view gln t)) (view gln t).contents
        (all_if (λ c. has_line (view gln t) c ≡ true) (view gln t).contents (λ c there.
        all_of (λ c. has_line (view gln t) c ≡ true) (gathered t (view gln t).pallets)
        (all_true (has_line (view gln t)) (gathered t (view gln t).pallets) it.contents) c
        (comes_gathered t (view gln t).pallets c (from_filter (λ c. holds gln t.pallets c.sscc) t.contents c there)
        (own c.sscc ∙ all_of (λ c. holds gln t.pallets c.sscc ≡ true) (view gln t).contents
        (all_passes (λ c. holds gln t.pallets c.sscc) t.contents) c there))));
    lines = sym (all_alike (is_balanced (goods_in gln t)) (is_balanced (view gln t)) balanced_alike (view gln t).lines) ∙ it.lines;
  }

  shows : (kind : RowKind) (key : RowKey) → ShowsUnsettled (goods_in gln t) kind key → ShowsUnsound t kind key
  shows Content key it =
      let c = it.0 in
      let from = is_gathered t (view gln t).pallets c it.1 in
      inr (gln, (c, has_filter (λ c. holds gln t.pallets c.sscc) t.contents c from.0 (sym (own c.sscc) ∙ from.1), it.2, it.3))
  shows Line key it = inr (gln, (it.0, it.1, sym (balanced_alike it.0) ∙ it.2, it.3))
  shows Hub key it = absurd it
  shows Supplier key it = it
  shows Prefix key it = it
  shows Order key it = it
  shows Advice key it = it
  shows Pallet key it = absurd it
  shows Receipt key it = absurd it
  shows Remembered key it = it
  shows Mail key it = absurd it

  pub tells_supplier : (found : Option Finding) → TellsSettled (goods_in gln t) found → TellsOfSupplier gln t found
  tells_supplier None it = settled it
  tells_supplier (Some found) it = shows found.kind found.key it

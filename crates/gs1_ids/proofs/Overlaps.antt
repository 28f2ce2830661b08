-- Suppliers whose prefixes are free of one another.
use Rattle.std.proofs.Common.{◌≡◌, ◌↔◌, ℕ, ◌+◌, ◌-◌, ◌<◌, Bool, true, false, List, [], ◌∷◌, ◌++◌, length, ap, ap₂, get_or, drop, map, None}
use Rattle.std.proofs.Common.{All, refl, sym, ◌∙◌, ⊎_elim, arith}
use Rattle.std.specs.List.{list_any}
use Rattle.std.proofs.lemmas.Bool.{both_ways, cases_order, false_from_ne_true}
use Rattle.std.proofs.lemmas.Bool.Decides.{Decides-by_or}
use Rattle.std.proofs.lemmas.List.{get_or-append_right, get_or-map, get_or_default, length-append, length-map}
use Rattle.std.proofs.Math.ListN.{get_or-append}
use Rattle.std.proofs.lemmas.List.Elements.{All-cons, All-nil}
use Rattle.std.proofs.lemmas.List.Folds.{list_any_at, list_any_none}
use Rattle.gs1_ids.specs.Overlap.{NoneOverlap, OverlapAt, AreApart, PrefixFree, SsccHasOneSupplier, overlap_some, first_overlap_between}
use Rattle.gs1_ids.specs.Prefix.{overlap}
use Rattle.gs1_ids.specs.Sscc.{under, under_some}
use Rattle.gs1_ids.proofs.FirstPairs.{fail_if_none, none_if_fail}
use Rattle.gs1_ids.proofs.Prefixes.{Decides-begins, prefixes_overlap}

-- lists of prefixes are apart where no prefix of the one overlaps one of the other
none_of : {X : Type 0} (test : X → Bool) (xs : List X) → list_any test xs ≡ false → All (λ x. test x ≡ false) xs
none_of test xs e k d within = false_from_ne_true _ (λ h. both_ways _ e (list_any_at test xs k d within h))

apart_if_none : (ps qs : List (List ℕ)) → overlap_some ps qs ≡ false → AreApart ps qs
apart_if_none ps qs e k d within =
    let p = get_or ps k d in
    none_of (overlap p) qs (none_of (λ p. list_any (overlap p) qs) ps e k d within)

none_if_apart : (ps qs : List (List ℕ)) → AreApart ps qs → overlap_some ps qs ≡ false
none_if_apart ps qs apart =
    list_any_none (λ p. list_any (overlap p) qs) ps (λ k d within. list_any_none (overlap (get_or ps k d)) qs (apart k d within))

pub apart-iff : (ps qs : List (List ℕ)) (r : Bool) → r ≡ overlap_some ps qs → (r ≡ false) ↔ AreApart ps qs
apart-iff ps qs r e = (λ h. apart_if_none ps qs (sym e ∙ h), λ apart. e ∙ none_if_apart ps qs apart)

-- suppliers are free of one another where no two of them overlap
pub free_if_none_between : (suppliers : List (List (List ℕ))) → first_overlap_between suppliers ≡ None → PrefixFree suppliers
free_if_none_between suppliers e i j d before within =
    apart_if_none (get_or suppliers i d) (get_or suppliers j d) (fail_if_none overlap_some suppliers e i j d before within)

pub none_between_if_free : (suppliers : List (List (List ℕ))) → PrefixFree suppliers → first_overlap_between suppliers ≡ None
none_between_if_free suppliers free =
    none_if_fail overlap_some suppliers (λ i j d before within.
    none_if_apart (get_or suppliers i d) (get_or suppliers j d) (free i j d before within))

-- the freedom of suppliers with one prefix each is that of the prefixes
AreApart-alone : (p q : List ℕ) → overlap p q ≡ false → AreApart (p ∷ []) (q ∷ [])
AreApart-alone p q e =
    All-cons (λ p. All (λ q. overlap p q ≡ false) (q ∷ [])) p []
    (All-cons (λ q. overlap p q ≡ false) q [] e (All-nil (λ q. overlap p q ≡ false)))
    (All-nil (λ p. All (λ q. overlap p q ≡ false) (q ∷ [])))

pub free_if_none : (ps : List (List ℕ)) → ((i j : ℕ) → OverlapAt ps i j → ⊥) → PrefixFree (map (λ p. p ∷ []) ps)
free_if_none ps none i j d before within =
    let inside : j < length ps = omega (arith, length-map ps (λ (p : List ℕ). p ∷ [])) in
    let apart : AreApart (get_or ps i [] ∷ []) (get_or ps j [] ∷ []) =
    AreApart-alone (get_or ps i []) (get_or ps j [])
    (false_from_ne_true _ (λ h. none i j (record { before = before; within = inside; passes = h }))) in
    let first : get_or (map (λ p. p ∷ []) ps) i d ≡ get_or ps i [] ∷ [] = get_or-map (λ p. p ∷ []) ps i [] d (omega arith) in
    let second : get_or (map (λ p. p ∷ []) ps) j d ≡ get_or ps j [] ∷ [] = get_or-map (λ p. p ∷ []) ps j [] d inside in
    rw (first, second) apart

pub none_if_free : (ps : List (List ℕ)) → PrefixFree (map (λ p. p ∷ []) ps) → (i j : ℕ) → OverlapAt ps i j → ⊥
none_if_free ps free i j o =
    let first : get_or (map (λ p. p ∷ []) ps) i [] ≡ get_or ps i [] ∷ [] =
    get_or-map (λ p. p ∷ []) ps i [] [] (omega (arith, o.before, o.within)) in
    let second : get_or (map (λ p. p ∷ []) ps) j [] ≡ get_or ps j [] ∷ [] = get_or-map (λ p. p ∷ []) ps j [] [] o.within in
    let apart : AreApart (get_or (map (λ p. p ∷ []) ps) i []) (get_or (map (λ p. p ∷ []) ps) j []) =
    free i j [] o.before (omega (arith, o.within, length-map ps (λ (p : List ℕ). p ∷ []))) in
    let one : AreApart (get_or ps i [] ∷ []) (get_or ps j [] ∷ []) = rw (first, second) at apart in
    both_ways _ (one 0 [] (omega arith) 0 [] (omega arith)) o.passes

-- a prefix among those of a supplier
found_under : (sscc : List ℕ) (ps : List (List ℕ))
    → under_some sscc ps ≡ true
    → (k : ℕ) × (k < length ps) × (under sscc (get_or ps k []) ≡ true)
found_under sscc ps h =
    let found = (Decides-by_or (under sscc) (λ p. under sscc p ≡ true) (list_any (under sscc)) (λ p. (λ e. e, λ e. e))
    refl (λ _ _. refl) ps).0 h in
    (found.0, found.1, found.2 [])

pub one_supplier : SsccHasOneSupplier
one_supplier suppliers sscc i j free within first also second =
    ⊎_elim (λ e. e)
    (⊎_elim (λ before. absurd (apart i j before also first second)) (λ after. absurd (apart j i after within second first)))
    (cases_order i j)
  where
    apart : (a b : ℕ)
        → a < b
        → b < length suppliers
        → under_some sscc (get_or suppliers a []) ≡ true
        → under_some sscc (get_or suppliers b []) ≡ true
        → ⊥
    apart a b before inside one other =
        let p = found_under sscc (get_or suppliers a []) one in
        let q = found_under sscc (get_or suppliers b []) other in
        let x = get_or (get_or suppliers a []) p.0 [] in
        let y = get_or (get_or suppliers b []) q.0 [] in
        let together = prefixes_overlap x y (drop 1 sscc) ((Decides-begins x (drop 1 sscc)).0 p.2)
        ((Decides-begins y (drop 1 sscc)).0 q.2) in
        both_ways _ (free a b [] before inside p.0 [] p.1 q.0 [] q.1) together

-- what stands behind the first part of a list
behind : (ps qs : List (List ℕ)) (k : ℕ) (d : List ℕ) → get_or (ps ++ qs) (length ps + k) d ≡ get_or qs k d
behind ps qs k d =
    let place : length ps + k - length ps ≡ k = omega arith in
    get_or-append_right ps qs (length ps) (length ps + k) d refl (omega arith) ∙ ap (λ n. get_or qs n d) place

-- the two parts of a list of which no two prefixes overlap
pub none_overlap-parts : (ps qs : List (List ℕ)) → NoneOverlap (ps ++ qs) → AreApart ps qs × NoneOverlap qs
none_overlap-parts ps qs none =
    let long : length (ps ++ qs) ≡ length ps + length qs = length-append ps qs in (
      λ i d first j e second.
          ap₂ overlap (sym (get_or-append ps qs d i first))
          (get_or_default qs j e d second ∙ sym (behind ps qs j d))
          ∙ none i (length ps + j) d (omega (arith, first)) (omega (arith, second, long)),
      λ i j d before second.
          ap₂ overlap (sym (behind ps qs i d)) (sym (behind ps qs j d))
          ∙ none (length ps + i) (length ps + j) d (omega (arith, before)) (omega (arith, second, long)),
    )

pub apart-parts : (ps qs rest : List (List ℕ)) → AreApart ps (qs ++ rest) → AreApart ps qs × AreApart ps rest
apart-parts ps qs rest apart = (
  λ i d first j e second. ap (overlap (get_or ps i d)) (sym (get_or-append qs rest e j second))
      ∙ apart i d first j e (omega (arith, second, long)),
  λ i d first j e second.
      ap (overlap (get_or ps i d)) (sym (behind qs rest j e)) ∙ apart i d first (length qs + j) e (omega (arith, second, long)),
)
  where
    long : length (qs ++ rest) ≡ length qs + length rest
    long = length-append qs rest

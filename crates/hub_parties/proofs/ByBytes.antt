-- Shows that sorting prefixes by their bytes keeps the same prefixes, so tests of some or all of them give the same
-- result.
use Rattle.std.proofs.Common.{◌≡◌, ◌<◌, Some, None, arith, Bool, true, false, cond, not, ◌&&◌}
use Rattle.std.proofs.Common.{◌||◌, ℕ, List, [], ◌∷◌, ◌++◌, length, refl, sym, ap, ap₂, ◌∙◌}
use Rattle.std.specs.List.{list_all, list_any}
use Rattle.std.specs.List.Sorted.{IsPermutation}
use Rattle.std.specs.declared.cmp.Ordering.{Ordering}
use Rattle.std.specs.Ordering.{is_gt}
use Rattle.std.proofs.lemmas.List.Sorted.{IsPermutation-refl, IsPermutation-cons, IsPermutation-middle, IsPermutation-trans}
use Rattle.std.proofs.lemmas.List.Sorted.{IsPermutation-sym, IsPermutation-append_right, length_permutation, list_any-IsPermutation}
use Rattle.std.specs.Prelude.{nat_le}
use Rattle.std.proofs.lemmas.Bool.{leb-true, cond-false, false_from_ne_true}
use Rattle.gs1_ids.specs.Overlap.{overlap_some}
use Rattle.gs1_ids.specs.Prefix.{overlap, is_prefix}
use Rattle.hub_parties.specs.KeyOrder.{bytes_cmp, put}
use Rattle.hub_parties.specs.Prefixes.{are_company_prefixes, by_bytes, put_all, most_prefixes, company_prefixes_of}

put-permutes : {X : Type 0} (cmp : X → X → Ordering) (x : X) (xs : List X) → IsPermutation (x ∷ xs) (put cmp x xs)
put-permutes cmp x [] = IsPermutation-refl (x ∷ [])
put-permutes cmp x (y ∷ ys) =
    elim (is_gt (cmp y x)) as (λ b. IsPermutation (x ∷ y ∷ ys) (cond b (x ∷ y ∷ ys) (y ∷ put cmp x ys))) [
      | true ↦ IsPermutation-refl (x ∷ y ∷ ys)
      | false ↦ IsPermutation-trans (x ∷ y ∷ ys) (y ∷ x ∷ ys) (y ∷ put cmp x ys) (IsPermutation-middle (x ∷ []) y ys)
          (IsPermutation-cons y (x ∷ ys) (put cmp x ys) (put-permutes cmp x ys))
    ]

put_all-permutes : (xs done : List (List ℕ)) → IsPermutation (xs ++ done) (put_all xs done)
put_all-permutes [] done = IsPermutation-refl done
put_all-permutes (x ∷ xs) done =
    IsPermutation-trans (x ∷ (xs ++ done)) (xs ++ x ∷ done) (put_all xs (put bytes_cmp x done))
    (IsPermutation-sym (xs ++ x ∷ done) (x ∷ (xs ++ done)) (IsPermutation-middle xs x done))
    (IsPermutation-trans (xs ++ x ∷ done) (xs ++ put bytes_cmp x done) (put_all xs (put bytes_cmp x done))
    (IsPermutation-append_right xs (x ∷ done) (put bytes_cmp x done) (put-permutes bytes_cmp x done))
    (put_all-permutes xs (put bytes_cmp x done)))

with_nothing : {X : Type 0} (xs : List X) → xs ++ [] ≡ xs
with_nothing [] = refl
with_nothing (x ∷ xs) = ap (λ rest. x ∷ rest) (with_nothing xs)

pub by_bytes-permutes : (texts : List (List ℕ)) → IsPermutation texts (by_bytes texts)
by_bytes-permutes texts = rw (with_nothing texts) at (put_all-permutes texts [])

pub length-by_bytes : (texts : List (List ℕ)) → length (by_bytes texts) ≡ length texts
length-by_bytes texts = length_permutation texts (by_bytes texts) (by_bytes-permutes texts)

pub any-by_bytes : (test : List ℕ → Bool) (texts : List (List ℕ)) → list_any test (by_bytes texts) ≡ list_any test texts
any-by_bytes test texts = sym (list_any-IsPermutation test texts (by_bytes texts) (by_bytes-permutes texts))

-- all pass exactly if none fails
none_fails : {X : Type 0} (test : X → Bool) (xs : List X) → list_all test xs ≡ not (list_any (λ x. not (test x)) xs)
none_fails test [] = refl
none_fails test (x ∷ xs) =
    elim (test x) as (λ b. (b && list_all test xs) ≡ not (not b || list_any (λ x. not (test x)) xs))
    [ true ↦ none_fails test xs | false ↦ refl ]

pub all-by_bytes : (test : List ℕ → Bool) (texts : List (List ℕ)) → list_all test (by_bytes texts) ≡ list_all test texts
all-by_bytes test texts =
    none_fails test (by_bytes texts) ∙ ap not (any-by_bytes (λ text. not (test text)) texts) ∙ sym (none_fails test texts)

-- whether some prefixes overlap does not depend on their order
any-alike : {X : Type 0} (f g : X → Bool) (alike : (x : X) → f x ≡ g x) (xs : List X) → list_any f xs ≡ list_any g xs
any-alike f g alike [] = refl
any-alike f g alike (x ∷ xs) = ap₂ (λ a b. a || b) (alike x) (any-alike f g alike xs)

pub overlap_some-by_bytes : (ps qs : List (List ℕ)) → overlap_some (by_bytes ps) (by_bytes qs) ≡ overlap_some ps qs
overlap_some-by_bytes ps qs =
    any-by_bytes (λ p. list_any (overlap p) (by_bytes qs)) ps
    ∙ any-alike (λ p. list_any (overlap p) (by_bytes qs)) (λ p. list_any (overlap p) qs) (λ p. any-by_bytes (overlap p) qs) ps

-- more prefixes than a supplier may have are not those of a supplier
falls : (a b c : Bool) → b ≡ false → (a && (b && c)) ≡ false
falls true true c e = cc
falls true false c e = refl
falls false b c e = refl

pub too_many : (texts : List (List ℕ)) → most_prefixes < length texts → company_prefixes_of texts ≡ None
too_many texts many =
    let over : nat_le (length (by_bytes texts)) most_prefixes ≡ false =
    false_from_ne_true _ (λ h. omega (arith, leb-true (length (by_bytes texts)) most_prefixes h, length-by_bytes texts, many)) in
    cond-false (are_company_prefixes (by_bytes texts)) (Some (by_bytes texts)) None
    (falls (nat_le 1 (length (by_bytes texts))) (nat_le (length (by_bytes texts)) most_prefixes) _ over)

-- nor are texts of which one is not a prefix
fails : (a b c d : Bool) → c ≡ false → (a && (b && (c && d))) ≡ false
fails true true true d e = cc
fails true true false d e = refl
fails true false c d e = refl
fails false b c d e = refl

pub no_prefix : (texts : List (List ℕ)) → list_all is_prefix texts ≡ false → are_company_prefixes (by_bytes texts) ≡ false
no_prefix texts e =
    fails (nat_le 1 (length (by_bytes texts))) (nat_le (length (by_bytes texts)) most_prefixes) _ _ (all-by_bytes is_prefix texts ∙ e)

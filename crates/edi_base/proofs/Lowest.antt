-- Shows that in a list of conditions with rising numbers, the first that holds is the one with the lowest number.
use Rattle.std.proofs.Common.{◌≡◌, ℕ, ◌<◌, nat_lt, ◌⊎◌, inl, inr, List, [], ◌∷◌, true, false, Bool, ◌&&◌, Some, None}
use Rattle.std.proofs.Common.{refl, sym, ap, ◌∙◌, arith, find}
use Rattle.std.proofs.lemmas.Bool.{cases_Bool, true≢false, and_parts, ltb-true}

-- it is in the list
abbrev pub Among : {F : Type 0} → F → List F → Type 0
Among f [] = ⊥
Among f (x ∷ xs) = (f ≡ x) ⊎ Among f xs

-- the numbers rise, and all are above n
abbrev pub RiseAbove : {F : Type 0} → (F → ℕ) → ℕ → List F → Type 0
RiseAbove number n [] = Unit {0}
RiseAbove number n (x ∷ xs) = (n < number x) × RiseAbove number (number x) xs

abbrev pub rise_above : {F : Type 0} → (F → ℕ) → ℕ → List F → Bool
rise_above number n [] = true
rise_above number n (x ∷ xs) = nat_lt n (number x) && rise_above number (number x) xs

module _ {F : Type 0} (number : F → ℕ) where
  pub RiseAbove-from_test : (n : ℕ) (xs : List F) → rise_above number n xs ≡ true → RiseAbove number n xs
  RiseAbove-from_test n [] h = tt
  RiseAbove-from_test n (x ∷ xs) h = let both = and_parts _ _ h in (ltb-true _ _ both.0, RiseAbove-from_test (number x) xs both.1)

  above_each : (n : ℕ) (xs : List F) (f : F) → RiseAbove number n xs → Among f xs → n < number f
  above_each n [] f h m = absurd m
  above_each n (x ∷ xs) f h (inl e) = rw e h.0
  above_each n (x ∷ xs) f h (inr m) = let later = above_each (number x) xs f h.1 m in omega arith

  not_below : (x : F) (xs : List F) (f g : F)
      → RiseAbove number (number x) xs
      → x ≡ f
      → Among g (x ∷ xs)
      → number g < number f
      → ⊥
  not_below x xs f g a same (inl here) lt = let e : number g ≡ number f = ap number (here ∙ same) in omega arith
  not_below x xs f g a same (inr later) lt =
      let e : number x ≡ number f = ap number same in let above = above_each (number x) xs g a later in omega arith

  -- what is found holds, and nothing with a lower number does
  module _ (p : F → Bool) where
    found_holds : (xs : List F) (f : F) → find p xs ≡ Some f → p f ≡ true
    found_holds [] f h = cc
    found_holds (x ∷ xs) f h =
        elim (cases_Bool (p x)) [
          | inl is ↦ let e : x ≡ f = let g : Some x ≡ Some f = sym (rw is refl) ∙ h in cc in rw (← e) is
          | inr not_ ↦ found_holds xs f (sym (rw not_ refl) ∙ h)
        ]

    found_lowest : (n : ℕ) (xs : List F) (f g : F)
        → RiseAbove number n xs
        → find p xs ≡ Some f
        → Among g xs
        → number g < number f
        → p g ≡ false
    found_lowest n [] f g a h m lt = absurd m
    found_lowest n (x ∷ xs) f g a h m lt =
        elim (cases_Bool (p x)) [
          | inl is ↦
              let same : x ≡ f = let e : Some x ≡ Some f = sym (rw is refl) ∙ h in cc in
              absurd (not_below x xs f g a.1 same m lt)
          | inr not_ ↦ elim m [
            | inl here ↦ rw here not_
            | inr later ↦ found_lowest (number x) xs f g a.1 (sym (rw not_ refl) ∙ h) later lt
          ]
        ]

    -- what holds is found, if nothing with a lower number does
    lowest_found : (n : ℕ) (xs : List F) (f : F)
        → RiseAbove number n xs
        → Among f xs
        → p f ≡ true
        → ((g : F) → number g < number f → p g ≡ false)
        → find p xs ≡ Some f
    lowest_found n [] f a m h lower = absurd m
    lowest_found n (x ∷ xs) f a (inl here) h lower = let is : p x ≡ true = rw (← here) h in rw is (ap Some (sym here))
    lowest_found n (x ∷ xs) f a (inr later) h lower =
        let not_ : p x ≡ false = lower x (above_each (number x) xs f a.1 later) in
        rw not_ (lowest_found (number x) xs f a.1 later h lower)

    none_found : (xs : List F) (g : F) → find p xs ≡ None → Among g xs → p g ≡ false
    none_found [] g h m = absurd m
    none_found (x ∷ xs) g h m =
        elim (cases_Bool (p x)) [
          | inl is ↦ let e : Some x ≡ None = sym (rw is refl) ∙ h in cc
          | inr not_ ↦ elim m [
            | inl here ↦ rw here not_
            | inr later ↦ none_found xs g (sym (rw not_ refl) ∙ h) later
          ]
        ]

    none_hold : (xs : List F) → ((g : F) → p g ≡ false) → find p xs ≡ None
    none_hold [] h = refl
    none_hold (x ∷ xs) h = rw (h x) (none_hold xs h)

    -- for a list of all conditions that can hold
    module _ (xs : List F) (rising : RiseAbove number 0 xs) (listed : (f : F) → (p f ≡ false) ⊎ Among f xs) where
      pub holds_here : (f : F) → find p xs ≡ Some f → p f ≡ true
      holds_here f h = found_holds xs f h

      pub none_lower : (f : F) → find p xs ≡ Some f → (g : F) → number g < number f → p g ≡ false
      none_lower f h g lt =
          elim (listed g) [ inl never ↦ never | inr among ↦ found_lowest 0 xs f g rising h among lt ]

      pub is_found : (f : F) → p f ≡ true → ((g : F) → number g < number f → p g ≡ false) → find p xs ≡ Some f
      is_found f h lower =
          elim (listed f) [
            | inl never ↦ absurd (true≢false (sym h ∙ never))
            | inr among ↦ lowest_found 0 xs f rising among h lower
          ]

      pub all_false : find p xs ≡ None → (g : F) → p g ≡ false
      all_false h g = elim (listed g) [ inl never ↦ never | inr among ↦ none_found xs g h among ]

      pub is_none : ((g : F) → p g ≡ false) → find p xs ≡ None
      is_none h = none_hold xs h

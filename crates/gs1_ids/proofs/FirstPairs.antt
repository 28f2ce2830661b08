-- The first two places of a list whose elements pass a test together.
use Rattle.std.proofs.Common.{◌≡◌, ℕ, ◌+◌, ◌-◌, ◌<◌, ◌≤◌, Bool, true, false, cond, List, [], ◌∷◌, length, get_or, drop, map, not, ltb}
use Rattle.std.proofs.Common.{All, Some, None, refl, sym, ap, ap₂, ◌∙◌, ⊎_elim, zero-add, arith, length-drop, suc}
use Rattle.std.specs.List.{between, position_or_len}
use Rattle.std.specs.Prelude.{Option, position, AllPairs}
use Rattle.std.proofs.lemmas.Bool.{both_ways, cases_lt, ltb-false}
use Rattle.std.proofs.lemmas.List.{drop_more, get_or-drop, get_or_read, length-map}
use Rattle.std.proofs.lemmas.List.Kept.{AllPairs-cons}
use Rattle.std.proofs.lemmas.List.Quantifiers.{position-Some}
use Rattle.std.proofs.lemmas.Slice.{between_to_end}
use Rattle.std.proofs.lemmas.List.Sums.{fails_before_first}
use Rattle.gs1_ids.specs.Overlap.{PairAt, pair_from, first_pair}

-- where a search finds nothing, its test fails
no_answer : (b : Bool) (k : ℕ) → cond b (Some k) None ≡ None → b ≡ false
no_answer true k e = cc
no_answer false k e = refl

-- the elements after the one at a place
module _ {X : Type 0} (test : X → X → Bool) (d : X) (xs : List X) (i : ℕ) where
  behind : (k : ℕ) → get_or (drop (i + 1) xs) k d ≡ get_or xs (i + 1 + k) d
  behind k = get_or-drop (i + 1) xs k d

  -- a later place that passes with it stands among them
  later : (l : ℕ)
      → PairAt test d xs i l
      → (k : ℕ)
      × (l ≡ i + 1 + k)
      × (k < length (drop (i + 1) xs))
      × (test (get_or xs i d) (get_or (drop (i + 1) xs) k d) ≡ true)
  later l o =
      let k = l - (i + 1) in
      let place : l ≡ i + 1 + k = omega (arith, o.before) in (
        k,
        place,
        omega (arith, o.before, o.within, length-drop (i + 1) xs),
        ap (test (get_or xs i d)) (behind k ∙ ap (λ n. get_or xs n d) (sym place)) ∙ o.passes,
      )

  pub found_behind : (k : ℕ)
      → position (test (get_or xs i d)) (drop (i + 1) xs) ≡ Some k
      → PairAt test d xs i (i + 1 + k) × ((l : ℕ) → PairAt test d xs i l → i + 1 + k ≤ l)
  found_behind k e =
      let found = position-Some (test (get_or xs i d)) (drop (i + 1) xs) k d e in (
        record {
          before = omega arith;
          within = omega (arith, found.0, length-drop (i + 1) xs);
          passes = ap (test (get_or xs i d)) (sym (behind k)) ∙ found.1;
        },
        λ l o.
            let w = later l o in
            ⊎_elim (λ earlier. absurd (both_ways _ (found.2 w.0 earlier) w.3)) (λ place. omega (arith, w.1, place)) (cases_lt w.0 k),
      )

  pub none_behind : position (test (get_or xs i d)) (drop (i + 1) xs) ≡ None → (l : ℕ) → PairAt test d xs i l → ⊥
  none_behind e l o =
      let x = get_or xs i d in
      let rest = drop (i + 1) xs in
      let past = ltb-false (position_or_len (test x) rest) (length rest) (no_answer _ (position_or_len (test x) rest) e) in
      let w = later l o in
      both_ways _ (fails_before_first (test x) rest w.0 d (omega (arith, w.2, past))) w.3

  -- what the search after the place answers, of the element that was read there and of the rest of the slice
  pub search_behind : (x : X) (answer : Option ℕ)
      → i < length xs
      → x ≡ get_or xs i x
      → answer ≡ position (test x) (between (i + 1) (length xs) xs)
      → answer ≡ position (test (get_or xs i d)) (drop (i + 1) xs)
  search_behind x answer within read e =
      e
      ∙ ap (λ y. position (test y) (between (i + 1) (length xs) xs)) (get_or_read xs i x within read d)
      ∙ ap (position (test (get_or xs i d))) (between_to_end xs (i + 1) (length xs) (omega arith))

-- places in a rest of a list, as places in the list
abbrev pub moved_by : ℕ → Option (ℕ × ℕ) → Option (ℕ × ℕ)
moved_by n None = None
moved_by n (Some places) = Some (n + places.0, n + places.1)

pub moved_by-0 : (o : Option (ℕ × ℕ)) → moved_by 0 o ≡ o
moved_by-0 None = refl
moved_by-0 (Some places) = ap₂ (λ i j. Some (i, j)) (zero-add places.0) (zero-add places.1)

moved_by-more : (n : ℕ) (o : Option (ℕ × ℕ)) → moved_by n (pair_from None o) ≡ moved_by (n + 1) o
moved_by-more n None = refl
moved_by-more n (Some places) = ap₂ (λ i j. Some (i, j)) (omega arith) (omega arith)

-- the first two places from a place on, by what the search after that place answers
module _ {X : Type 0} (test : X → X → Bool) (d : X) (xs : List X) (i : ℕ) (within : i < length xs) where
  here_or_later : moved_by i (first_pair test (drop i xs))
      ≡ moved_by i (pair_from (position (test (get_or xs i d)) (drop (i + 1) xs)) (first_pair test (drop (i + 1) xs)))
  here_or_later = ap (λ rest. moved_by i (first_pair test rest)) (drop_more xs i d within)

  pub found_next : (k : ℕ)
      → position (test (get_or xs i d)) (drop (i + 1) xs) ≡ Some k
      → moved_by i (first_pair test (drop i xs)) ≡ Some (i, i + 1 + k)
  found_next k e =
      here_or_later
      ∙ ap (λ o. moved_by i (pair_from o (first_pair test (drop (i + 1) xs)))) e
      ∙ ap₂ (λ m n. Some (m, n)) (omega arith) (omega arith)

  pub found_later : position (test (get_or xs i d)) (drop (i + 1) xs) ≡ None
      → moved_by i (first_pair test (drop i xs)) ≡ moved_by (i + 1) (first_pair test (drop (i + 1) xs))
  found_later e =
      here_or_later
      ∙ ap (λ o. moved_by i (pair_from o (first_pair test (drop (i + 1) xs)))) e
      ∙ moved_by-more i (first_pair test (drop (i + 1) xs))

-- No places are found where no two elements pass, and there alone.
both_none : (a : Option ℕ) (b : Option (ℕ × ℕ)) → pair_from a b ≡ None → (a ≡ None) × (b ≡ None)
both_none None None h = (refl, refl)
both_none None (Some places) h = cc
both_none (Some second) b h = cc

module _ {X : Type 0} (test : X → X → Bool) where
  abbrev pub Fail : X → X → Type 0
  Fail x y = test x y ≡ false

  none_passes : (x : X) (xs : List X) → position (test x) xs ≡ None → All (Fail x) xs
  none_passes x xs e k d within =
      let past = ltb-false (position_or_len (test x) xs) (length xs) (no_answer _ (position_or_len (test x) xs) e) in
      fails_before_first (test x) xs k d (omega (arith, within, past))

  pub fail_if_none : (xs : List X) → first_pair test xs ≡ None → AllPairs Fail xs
  fail_if_none [] e = λ i j d before within. absurd (omega arith)
  fail_if_none (x ∷ xs) e =
      let parts = both_none (position (test x) xs) (first_pair test xs) e in
      AllPairs-cons Fail x xs (none_passes x xs parts.0) (fail_if_none xs parts.1)

  not_found : (x : X) (xs : List X) (o : Option ℕ) → position (test x) xs ≡ o → All (Fail x) xs → o ≡ None
  not_found x xs None e h = refl
  not_found x xs (Some k) e h =
      let found = position-Some (test x) xs k x e in
      absurd (both_ways _ (h k x found.0) found.1)

  pub none_if_fail : (xs : List X) → AllPairs Fail xs → first_pair test xs ≡ None
  none_if_fail [] h = refl
  none_if_fail (x ∷ xs) h =
      ap₂ pair_from (not_found x xs _ refl (λ k d within. h 0 (suc k) d (omega arith) (omega (arith, within))))
      (none_if_fail xs (λ i j d before within. h (suc i) (suc j) d (omega (arith, before)) (omega (arith, within))))

-- Elements that pass alike are found alike.
module _ {X Y : Type 0} (test : X → X → Bool) (f g : Y → X) (alike : (x y : Y) → test (f x) (f y) ≡ test (g x) (g y)) where
  position-alike : (x : Y) (ys : List Y) → position_or_len (test (f x)) (map f ys) ≡ position_or_len (test (g x)) (map g ys)
  position-alike x [] = refl
  position-alike x (y ∷ ys) = ap₂ (λ b n. cond (not b) (1 + n) 0) (alike x y) (position-alike x ys)

  pub first_pair-alike : (ys : List Y) → first_pair test (map f ys) ≡ first_pair test (map g ys)
  first_pair-alike [] = refl
  first_pair-alike (y ∷ ys) =
      ap₂ pair_from (ap₂ (λ n end. cond (ltb n end) (Some n) None) (position-alike y ys) (length-map ys f ∙ sym (length-map ys g)))
      (first_pair-alike ys)

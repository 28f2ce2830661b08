-- A list without the empty ones at its end.
use Rattle.std.proofs.Common.{◌≡◌, ◌<◌, ◌-◌, ◌+◌, ℕ, List, [], ◌∷◌, ◌++◌, length, take, get_or, refl, sym, ap, ◌∙◌, arith}
use Rattle.std.proofs.lemmas.List.{take_all, take_more}
use Rattle.std.proofs.lemmas.Bool.{eqb-true}
use Rattle.std.specs.Prelude.{true, false, ◌==◌}
use Rattle.edi_segments.specs.Spelling.{and_others, without_empty_end}

pub without_empty_end-push_empty : {A : Type 0} (xs : List (List A)) → without_empty_end (xs ++ [] ∷ []) ≡ without_empty_end xs
without_empty_end-push_empty [] = refl
without_empty_end-push_empty (x ∷ xs) = ap (and_others x) (without_empty_end-push_empty xs)

and_others-push : {A : Type 0} (y : List A) (ys : List (List A)) (z : List A) → and_others y (ys ++ z ∷ []) ≡ y ∷ (ys ++ z ∷ [])
and_others-push [] [] z = refl
and_others-push [] (v ∷ vs) z = refl
and_others-push (a ∷ y) ys z = refl

pub without_empty_end-push : {A : Type 0} (xs : List (List A)) (x : List A) → 0 < length x → without_empty_end (xs ++ x ∷ []) ≡ xs ++ x ∷ []
without_empty_end-push xs [] some = absurd (omega arith)
without_empty_end-push [] (a ∷ x) some = refl
without_empty_end-push (y ∷ ys) (a ∷ x) some = ap (and_others y) (without_empty_end-push ys (a ∷ x) some) ∙ and_others-push y ys (a ∷ x)

-- a list is its front and its last item
pub front_and_last : {X : Type 0} (xs : List X) (d : X) → 0 < length xs → xs ≡ take (length xs - 1) xs ++ get_or xs (length xs - 1) d ∷ []
front_and_last xs d some =
    let i : length xs - 1 < length xs = omega arith in
    let n : length xs - 1 + 1 ≡ length xs = omega arith in
    sym (take_all (length xs) xs (omega arith)) ∙ ap (λ (k : ℕ). take k xs) (sym n) ∙ take_more xs (length xs - 1) d i

empty_from_length : {A : Type 0} (x : List A) → length x ≡ 0 → x ≡ []
empty_from_length [] e = refl
empty_from_length (a ∷ x) e = absurd (omega arith)

-- the last one is empty, and was taken off
pub popped : {A : Type 0} (xs ys : List (List A)) (last : List A)
    → ys ≡ take (length xs - 1) xs
    → 0 < length xs
    → last ≡ get_or xs (length xs - 1) last
    → length last ≡ 0
    → without_empty_end ys ≡ without_empty_end xs
popped xs ys last front some is_last empty =
    let e : xs ≡ take (length xs - 1) xs ++ [] ∷ [] =
    front_and_last xs last some ∙ ap (λ x. take (length xs - 1) xs ++ x ∷ []) (sym is_last ∙ empty_from_length last empty) in
    ap without_empty_end front ∙ sym (without_empty_end-push_empty (take (length xs - 1) xs)) ∙ ap without_empty_end (sym e)

-- the last one is not empty
pub kept : {A : Type 0} (xs : List (List A)) (last : List A)
    → 0 < length xs
    → last ≡ get_or xs (length xs - 1) last
    → 0 < length last
    → without_empty_end xs ≡ xs
kept xs last some is_last full =
    let e : xs ≡ take (length xs - 1) xs ++ last ∷ [] =
    front_and_last xs last some ∙ ap (λ x. take (length xs - 1) xs ++ x ∷ []) (sym is_last) in
    ap without_empty_end e ∙ without_empty_end-push (take (length xs - 1) xs) last full ∙ sym e

-- a list that is closed: an empty last one is dropped with those before it
pub closed_empty : {A : Type 0} (xs : List (List A)) (x : List A)
    → (length x == 0) ≡ true
    → without_empty_end (xs ++ x ∷ []) ≡ without_empty_end xs
closed_empty xs [] empty = without_empty_end-push_empty xs
closed_empty xs (a ∷ x) empty = absurd (omega (arith, eqb-true (length (a ∷ x)) 0 empty))

pub closed_full : {A : Type 0} (xs : List (List A)) (x : List A) → (length x == 0) ≡ false → without_empty_end (xs ++ x ∷ []) ≡ xs ++ x ∷ []
closed_full xs [] full = absurd cc
closed_full xs (a ∷ x) full = without_empty_end-push xs (a ∷ x) (omega arith)

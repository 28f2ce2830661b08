-- Bytes that are appended, a part at a time.
use Rattle.std.proofs.Common.{◌≡◌, ℕ, ◌+◌, ◌<◌, ◌≤◌, suc, List, [], ◌∷◌, ◌++◌, length, get_or, take, drop, refl, sym, ap}
use Rattle.std.proofs.Common.{subst, ◌∙◌, append_assoc, arith}
use Rattle.std.proofs.lemmas.List.{append-nil, length-set, take_at, get_or-set_same, get_or-set_other}
use Rattle.std.proofs.Math.Seq.{drop-cons}
use Rattle.std.specs.List.{flat_map}
use Rattle.edi_segments.specs.Segment.{element_at}
use Rattle.edi_tokens.specs.Appending.{KeepsFront, with_first, elements_with}
use Rattle.edi_tokens.proofs.Canonical.{flat_map-drop_all}
use Rattle.edi_tokens.proofs.Kept.{keeps}

-- what is kept through one addition after another
pub kept_through : (was so_far new : List ℕ) → KeepsFront was so_far → KeepsFront so_far new → KeepsFront was new
kept_through was so_far new first second = grind (arith, keeps)

pub kept_by : (was more new : List ℕ) → new ≡ was ++ more → KeepsFront was new
kept_by was more new is = ap (take (length was)) is ∙ take_at was more (length was) refl

-- one more part
pub appended : {X : Type 0} (f : X → List ℕ) (xs : List X) (i : ℕ) (x d : X) (out new whole : List ℕ) → i < length xs
    → get_or xs i d ≡ x
    → out ++ flat_map f (drop i xs) ≡ whole
    → new ≡ out ++ f x
    → new ++ flat_map f (drop (i + 1) xs) ≡ whole
appended f xs i x d out new whole lt is so_far more =
    let next : suc i ≡ i + 1 = omega arith in
    let cons : drop i xs ≡ x ∷ drop (i + 1) xs =
    drop-cons xs i d lt ∙ ap (λ y. y ∷ drop (suc i) xs) is ∙ ap (λ (k : ℕ). x ∷ drop k xs) next in
    ap (λ l. l ++ flat_map f (drop (i + 1) xs)) more
    ∙ append_assoc out (f x) (flat_map f (drop (i + 1) xs))
    ∙ sym (ap (λ l. out ++ flat_map f l) cons)
    ∙ so_far

-- the element that has another first component, and the others
pub element_with : (elements : List (List (List ℕ))) (place i : ℕ) (first : List ℕ) → i ≡ place
    → i < length elements
    → get_or (elements_with elements place first) i [] ≡ with_first (element_at elements i) first
element_with elements place i first is lt =
    subst (λ (k : ℕ). get_or (elements_with elements k first) i [] ≡ with_first (element_at elements i) first) is
    (get_or-set_same elements i (with_first (element_at elements i) first) [] lt)

pub element_beside : (elements : List (List (List ℕ))) (place i : ℕ) (first : List ℕ) → (i ≡ place → ⊥)
    → get_or (elements_with elements place first) i [] ≡ element_at elements i
element_beside elements place i first other =
    get_or-set_other elements place i (with_first (element_at elements place) first) [] other

pub all_elements : (elements : List (List (List ℕ))) (place : ℕ) (first : List ℕ)
    → length (elements_with elements place first) ≡ length elements
all_elements elements place first = length-set elements place (with_first (element_at elements place) first)

-- no part is left, and this comes last
pub ended : {X : Type 0} (f : X → List ℕ) (xs : List X) (i : ℕ) (out old text : List ℕ) → length xs ≤ i
    → out ++ flat_map f (drop i xs) ≡ old ++ text
    → out ≡ old ++ text
ended f xs i out old text le so_far = sym (ap (λ l. out ++ l) (flat_map-drop_all f xs i le) ∙ append-nil out) ∙ so_far

pub ended_by : (out old text last new : List ℕ) → out ≡ old ++ text → new ≡ out ++ last → new ≡ old ++ (text ++ last)
ended_by out old text last new is more = more ∙ ap (λ l. l ++ last) is ∙ append_assoc old text last

pub kept_as : (was new : List ℕ) → new ≡ was → KeepsFront was new
kept_as was new is = kept_by was [] new (is ∙ sym (append-nil was))

-- what was kept so far is kept by one more addition, or if nothing is added
pub kept_more : (was so_far more new : List ℕ) → KeepsFront was so_far → new ≡ so_far ++ more → KeepsFront was new
kept_more was so_far more new kept is = kept_through was so_far new kept (kept_by so_far more new is)

pub kept_still : (was so_far new : List ℕ) → KeepsFront was so_far → new ≡ so_far → KeepsFront was new
kept_still was so_far new kept is = kept_through was so_far new kept (kept_as so_far new is)

-- what was kept after a first addition
pub kept_after : (was more next new : List ℕ) → next ≡ was ++ more → KeepsFront next new → KeepsFront was new
kept_after was more next new is kept = kept_through was next new (kept_by was more next is) kept

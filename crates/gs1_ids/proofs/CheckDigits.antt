-- The weighted sum of digits in two parts.
use Rattle.std.proofs.Common.{◌≡◌, ℕ, ◌+◌, ◌%◌, ◌<◌, min, ◌==◌, if◌then◌else◌, List, [], ◌∷◌, ◌++◌, length, ap, ◌∙◌, sym}
use Rattle.std.proofs.Common.{arith, length-append, subst, All}
use Rattle.std.proofs.lemmas.List.{get_or_append_left}
use Rattle.std.specs.Char.{IsAsciiDigit}
use Rattle.gs1_ids.specs.Digits.{weight, weighted_sum}

-- an even number of further places changes no weight
weight-even : (place more : ℕ) → more % 2 ≡ 0 → weight (place + more) ≡ weight place
weight-even place more even =
    let same : (place + more) % 2 ≡ place % 2 = omega (arith, even) in ap (λ rest. if rest == 0 then 3 else 1) same

-- an even number of digits behind others leaves their weights
weighted_sum-append : (xs ys : List ℕ) → length ys % 2 ≡ 0 → weighted_sum (xs ++ ys) ≡ weighted_sum xs + weighted_sum ys
weighted_sum-append [] ys even = omega arith
weighted_sum-append (x ∷ xs) ys even =
    let e : weight (length (xs ++ ys)) ≡ weight (length xs) =
    ap (λ k. weight k) (length-append xs ys) ∙ weight-even (length xs) (length ys) even in
    rw e (omega (arith, weighted_sum-append xs ys even))

-- a part of eighteen from the right, or of all that is left
weighted_sum-parts : (front part : List ℕ)
    → length part ≡ min 18 (length (front ++ part))
    → weighted_sum (front ++ part) ≡ weighted_sum front + weighted_sum part
weighted_sum-parts [] part h = omega arith
weighted_sum-parts (x ∷ xs) part h = weighted_sum-append (x ∷ xs) part (omega (arith, h, length-append (x ∷ xs) part))

-- a part's sum goes over to what is summed, which is kept below ten
pub part_more : (whole front part : List ℕ) (sum part_sum total : ℕ)
    → whole ≡ front ++ part
    → length part ≡ min 18 (length whole)
    → part_sum ≡ weighted_sum part
    → (sum + weighted_sum whole) % 10 ≡ total
    → ((sum + part_sum) % 10 + weighted_sum front) % 10 ≡ total
part_more whole front part sum part_sum total cut len same so_far =
    let parts = weighted_sum-parts front part (subst (λ xs. length part ≡ min 18 (length xs)) cut len) in
    let before = subst (λ xs. (sum + weighted_sum xs) % 10 ≡ total) cut so_far in
    omega (arith, parts, before, same)

-- what is left of digits is digits
pub digits_left : (whole front part : List ℕ) → whole ≡ front ++ part → All IsAsciiDigit whole → All IsAsciiDigit front
digits_left whole front part cut digits k d h =
    let within : k < length (front ++ part) = omega (arith, h, length-append front part) in
    rw (sym (get_or_append_left front part d k h)) (subst (All IsAsciiDigit) cut digits k d within)

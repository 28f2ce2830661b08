-- Computes the number that digits write, digit by digit.
use Rattle.std.proofs.Common.{◌≡◌, ℕ, suc, ◌+◌, ◌*◌, ◌^◌, ◌<◌, ◌≤◌, List, [], ◌∷◌, length, fold, drop, get_or, None, true}
use Rattle.std.proofs.Common.{nat_le, refl, sym, ap, ◌∙◌, arith}
use Rattle.std.specs.List.{list_all}
use Rattle.std.proofs.lemmas.Bool.{and_parts, leb-true, lt-leb}
use Rattle.std.proofs.lemmas.List.{drop_more}
use Rattle.std.proofs.Math.Nat.{pow-succ', mul_assoc, mul_comm, mul-le-mul_right, pow-le-pow_right}
use Rattle.edi_base.specs.Limits.{has_length, is_digit, is_count, with_digit, number_of, greatest, value_of}

-- more digits never write a smaller number
pub number_grows : (n : ℕ) (digits : List ℕ) → n ≤ fold with_digit n digits
number_grows n [] = omega arith
number_grows n (d ∷ ds) = let more = number_grows (with_digit n d) ds in omega (arith, more)

-- a number above the greatest one, with the digits that follow
pub past_greatest : (n : ℕ) (digits : List ℕ) (i d : ℕ)
    → number_of digits ≡ fold with_digit n (drop i digits)
    → i < length digits
    → greatest < with_digit n (get_or digits i d)
    → None ≡ value_of digits
past_greatest n digits i d value within past =
    let more : number_of digits ≡ fold with_digit (with_digit n (get_or digits i d)) (drop (i + 1) digits) =
    value ∙ ap (fold with_digit n) (drop_more digits i d within) in
    let grown = number_grows (with_digit n (get_or digits i d)) (drop (i + 1) digits) in
    let above : greatest < number_of digits = omega (arith, more, grown, past) in
    rw (lt-leb (number_of digits) greatest above) refl

-- a number followed by n digits is below the next number times 10 ^ n
pub digits_below : (n : ℕ) (digits : List ℕ) → list_all is_digit digits ≡ true → fold with_digit n digits < (n + 1) * 10 ^ length digits
digits_below n [] h = omega arith
digits_below n (d ∷ ds) h =
    let parts = and_parts (is_digit d) (list_all is_digit ds) h in
    let bounds = and_parts (nat_le 48 d) (nat_le d 57) parts.0 in
    let high : d ≤ 57 = leb-true _ _ bounds.1 in
    let rest = digits_below (with_digit n d) ds parts.1 in
    let p = 10 ^ length ds in
    let grown : (with_digit n d + 1) * p ≤ (10 * (n + 1)) * p = mul-le-mul_right p (omega (arith, high)) in
    let again : (10 * (n + 1)) * p ≡ (n + 1) * 10 ^ suc (length ds) =
    ap (λ k. k * p) (mul_comm 10 (n + 1)) ∙ mul_assoc (n + 1) 10 p ∙ ap (λ k. (n + 1) * k) (sym (pow-succ' 10 (length ds))) in
    omega (arith, rest, grown, again)

-- a count is below a million
pub count_below : (bytes : List ℕ) → is_count bytes ≡ true → number_of bytes < 1_000_000
count_below bytes h =
    let parts = and_parts (has_length 1 6 bytes) (list_all is_digit bytes) h in
    let short : length bytes ≤ 6 = leb-true _ _ (and_parts (nat_le 1 (length bytes)) (nat_le (length bytes) 6) parts.0).1 in
    omega (arith, digits_below 0 bytes parts.1, pow-le-pow_right {n = 10} (omega arith) short)

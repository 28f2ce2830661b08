-- Relates digits to the numbers that they write.
use Rattle.std.proofs.Common.{◌≡◌, ℕ, ◌^◌, ◌<◌, ◌≤◌, true, not, ◌&&◌, ◌==◌, List, [], ◌∷◌}
use Rattle.std.proofs.Common.{length, fold, cond, Some, None, Result, Ok, nat_le}
use Rattle.std.proofs.Common.{ap, ap₂, ◌∙◌, arith, rules}
use Rattle.std.specs.Fmt.{decimal}
use Rattle.std.specs.List.{list_all}
use Rattle.std.proofs.lemmas.Bool.{and_parts, le-leb, leb-true}
use Rattle.std.proofs.lemmas.Bool.Decides.{nat_tests}
use Rattle.std.proofs.lemmas.Fmt.{digits_decimal, digits_value-decimal, length-decimal-le, decimal_nonempty}
use Rattle.std.proofs.lemmas.Option.{cond_some}
use Rattle.std.specs.Str.Parse.{ParsesUnsigned}
use Rattle.std.specs.Str.{IsUtf8, IsAscii}
use Rattle.std.proofs.lemmas.Str.{IsUtf8-from_ascii}
use Rattle.std.proofs.lemmas.Str.Ascii.{IsAscii-nil, IsAscii-cons}
use Rattle.std.proofs.lemmas.Str.Parse.{IsNumeralModel, numerals_by_fold, digits_value_short, parse_gives}
use Rattle.std.proofs.Math.Nat.{pow-le-pow_right}
use Rattle.edi_base.specs.Limits.{is_digit, has_length, are_digits, with_digit, number_of, greatest, value_of}
use Rattle.hub_texts.specs.Cancel.{positive}

abbrev pub AreDigits : List ℕ → Type 0
AreDigits digits = list_all is_digit digits ≡ true

pub numerals : IsNumeralModel AreDigits number_of
numerals = numerals_by_fold AreDigits (search rules) (λ n digits. fold with_digit n digits) (search rules)

-- n digits write a number below 10 ^ n
pub digits_below : (most : ℕ) (digits : List ℕ) → are_digits 1 most digits ≡ true → number_of digits < 10 ^ most
digits_below most digits h =
    let parts = and_parts (has_length 1 most digits) (list_all is_digit digits) h in
    let short : length digits ≤ most = leb-true _ _ (and_parts (nat_le 1 (length digits)) (nat_le (length digits) most) parts.0).1 in
    digits_value_short numerals digits most parts.1 short

-- a number of up to nine digits is not above the greatest one
pub short_value : (most : ℕ) (digits : List ℕ) → most ≤ 9 → are_digits 1 most digits ≡ true → value_of digits ≡ Some (number_of digits)
short_value most digits short h =
    let below = digits_below most digits h in
    let most_below : 10 ^ most ≤ 10 ^ 9 = pow-le-pow_right {n = 10} (omega arith) short in
    let within : number_of digits ≤ greatest = omega (arith, below, most_below) in
    ap (λ v. cond v (Some (number_of digits)) None) (le-leb (number_of digits) greatest within)

-- a number is read as it is written
pub decimal_positive : (most n : ℕ) → 0 < most → 0 < n → n < 10 ^ most → n < 2 ^ 64 → positive most (decimal n) ≡ Some n
decimal_positive most n some above below small =
    let value : number_of (decimal n) ≡ n = digits_value-decimal numerals n small in
    let all : list_all is_digit (decimal n) ≡ true = digits_decimal numerals n small in
    let low : nat_le 1 (length (decimal n)) ≡ true = le-leb _ _ (decimal_nonempty n small) in
    let high : nat_le (length (decimal n)) most ≡ true = le-leb _ _ (length-decimal-le most n some below small) in
    let digits : are_digits 1 most (decimal n) ≡ true = ap₂ (λ a b. a && b) (ap₂ (λ a b. a && b) low high) all in
    let some_digit : not (n == 0) ≡ true = grind (arith, nat_tests) in
    let test : (are_digits 1 most (decimal n) && not (number_of (decimal n) == 0)) ≡ true =
    ap₂ (λ a b. a && b) digits (ap (λ k. not (k == 0)) value ∙ some_digit) in
    ap₂ (λ v k. cond v (Some k) None) test value

-- a number that is read has at most that many digits, and is not zero
pub positive_within : (most : ℕ) (digits : List ℕ) (n : ℕ) → positive most digits ≡ Some n → (0 < n) × (n < 10 ^ most)
positive_within most digits n h =
    let read = cond_some (are_digits 1 most digits && not (number_of digits == 0)) (number_of digits) n h in
    let parts = and_parts (are_digits 1 most digits) (not (number_of digits == 0)) read.0 in
    let below = digits_below most digits parts.0 in
    let above : 0 < number_of digits = grind (arith, nat_tests, parts.1) in
    (omega (arith, above, read.1), omega (arith, below, read.1))

-- 1 to 14 digits are read as the number that they write
pub read : {E : Type 0} (digits : List ℕ) (r : Result ℕ E) → ParsesUnsigned 64 10 digits r → are_digits 1 14 digits ≡ true
    → r ≡ Ok (number_of digits)
read digits r parses h =
    let parts = and_parts (has_length 1 14 digits) (list_all is_digit digits) h in
    let some : 1 ≤ length digits = leb-true _ _ (and_parts (nat_le 1 (length digits)) (nat_le (length digits) 14) parts.0).0 in
    let below : number_of digits < 10 ^ 14 = digits_below 14 digits h in
    parse_gives numerals 64 digits r parses parts.1 (omega arith) (omega (arith, below))

-- digits are text
digits_are_ascii : (digits : List ℕ) → AreDigits digits → IsAscii digits
digits_are_ascii [] h = IsAscii-nil
digits_are_ascii (d ∷ ds) h =
    let parts = and_parts (is_digit d) (list_all is_digit ds) h in
    let high : d ≤ 57 = leb-true _ _ (and_parts (nat_le 48 d) (nat_le d 57) parts.0).1 in
    IsAscii-cons d ds (omega (arith, high)) (digits_are_ascii ds parts.1)

pub digits_are_text : (most : ℕ) (digits : List ℕ) → are_digits 1 most digits ≡ true → IsUtf8 digits
digits_are_text most digits h =
    IsUtf8-from_ascii digits (digits_are_ascii digits (and_parts (has_length 1 most digits) (list_all is_digit digits) h).1)

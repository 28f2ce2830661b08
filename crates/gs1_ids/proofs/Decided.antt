-- Each test of a text decides the fact that it stands for, and so what `parse` answers.
use Rattle.std.proofs.Common.{◌≡◌, ℕ, ◌≤◌, ◌==◌, ◌&&◌, Bool, cond, Some, None, List, length, All, Decides, refl, sym, ap, ◌∙◌, arith}
use Rattle.std.specs.Char.{IsAsciiDigit, is_ascii_digit}
use Rattle.std.specs.List.{list_all}
use Rattle.std.specs.Prelude.{nat_le}
use Rattle.std.proofs.lemmas.Bool.{leb-true, le-leb, cond-true, cond-false, false_from_ne_true}
use Rattle.std.proofs.lemmas.Bool.Decides.{Decides-eqb, Decides-and, Decides-like, Decides-by_and, nat_tests}
use Rattle.gs1_ids.specs.Digits.{IsKey, is_key}
use Rattle.gs1_ids.specs.Gtin.{IsGtin, is_gtin_length}
use Rattle.gs1_ids.specs.Prefix.{IsPrefix, is_prefix}

Decides-digit : (c : ℕ) → Decides (is_ascii_digit c) (IsAsciiDigit c)
Decides-digit c = (λ h. grind (arith, nat_tests), λ p. grind (arith, nat_tests))

pub Decides-digits : (xs : List ℕ) → Decides (list_all is_ascii_digit xs) (All IsAsciiDigit xs)
Decides-digits = Decides-by_and is_ascii_digit IsAsciiDigit (list_all is_ascii_digit) Decides-digit refl (λ _ _. refl)

Decides-nat_le : (a b : ℕ) → Decides (nat_le a b) (a ≤ b)
Decides-nat_le a b = (leb-true a b, le-leb a b)

pub Decides-is_key : (n : ℕ) (xs : List ℕ) → Decides (is_key n xs) (IsKey n xs)
Decides-is_key n xs =
    Decides-like (is_key n xs) (λ p. record { len = p.0; ascii = p.1.0; checked = p.1.1 })
    (λ (k : IsKey n xs). (k.len, (k.ascii, k.checked)))
    (Decides-and (length xs == n) _ (Decides-eqb (length xs) n)
    (Decides-and (list_all is_ascii_digit xs) _ (Decides-digits xs) (Decides-eqb _ _)))

pub Decides-is_gtin : (xs : List ℕ) → Decides (is_gtin_length (length xs) && is_key (length xs) xs) (IsGtin xs)
Decides-is_gtin xs =
    Decides-like (is_gtin_length (length xs) && is_key (length xs) xs) (λ p. record { len = p.0; key = p.1 })
    (λ (g : IsGtin xs). (g.len, g.key))
    (Decides-and (is_gtin_length (length xs)) _ (λ h. h, λ h. h) (Decides-is_key (length xs) xs))

pub Decides-is_prefix : (xs : List ℕ) → Decides (is_prefix xs) (IsPrefix xs)
Decides-is_prefix xs =
    Decides-like (is_prefix xs) (λ p. record { least = p.0; most = p.1.0; ascii = p.1.1 })
    (λ (p : IsPrefix xs). (p.least, (p.most, p.ascii)))
    (Decides-and (nat_le 4 (length xs)) _ (Decides-nat_le 4 (length xs))
    (Decides-and (nat_le (length xs) 12) _ (Decides-nat_le (length xs) 12) (Decides-digits xs)))

-- what is answered where the fact holds, and where it does not
pub found : (test : Bool) (P : Type 0) (there answer : List ℕ)
    → Decides test P
    → P
    → answer ≡ there
    → Some answer ≡ cond test (Some there) None
found test P there answer d holds same = ap Some same ∙ sym (cond-true test (Some there) None (d.1 holds))

pub refused : (test : Bool) (P : Type 0) (there : List ℕ) → Decides test P → ¬ P → None ≡ cond test (Some there) None
refused test P there d fails = sym (cond-false test (Some there) None (false_from_ne_true test (λ e. fails (d.0 e))))

-- What each byte is, one after another.
use Rattle.std.proofs.Common.{◌≡◌, ◌+◌, ◌<◌, ℕ, zero, suc, Bool, true, false, List, [], ◌∷◌, ◌++◌, length, get_or, set, take, drop, refl}
use Rattle.std.proofs.Common.{sym, ap, ◌∙◌, inl, inr, arith}
use Rattle.edi_segments.proofs.Runs.{left_true, right_true}
use Rattle.std.specs.List.{list_all}
use Rattle.std.specs.Prelude.{◌&&◌}
use Rattle.std.proofs.lemmas.List.{get_or-set_other}
use Rattle.std.proofs.lemmas.Grind.{get_or-set_at}
use Rattle.std.proofs.lemmas.Bool.{cases_order}

pub set_more : (told : List Bool) (f : ℕ → Bool) (n : ℕ) (v : Bool) → n < length told → v ≡ f n
    → ((b : ℕ) → b < n → get_or told b false ≡ f b) → (b : ℕ) → b < n + 1 → get_or (set told n v) b false ≡ f b
set_more told f n v within is so_far b lt =
    elim (cases_order b n) [
      | inl same ↦ get_or-set_at told n b v false same within ∙ is ∙ ap f (sym same)
      | inr (inl less) ↦ get_or-set_other told n b v false (λ same. omega (arith, same, less)) ∙ so_far b less
      | inr (inr more) ↦ absurd (omega (arith, lt, more))
    ]

-- a byte more is copied over the front of others
pub copied_more : (bytes was : List ℕ) (n : ℕ) → n < length bytes → n < length was
    → set (take n bytes ++ drop n was) n (get_or bytes n 0) ≡ take (n + 1) bytes ++ drop (n + 1) was
copied_more [] was n lt room = absurd (omega (arith, lt))
copied_more (b ∷ bytes) [] n lt room = absurd (omega (arith, room))
copied_more (b ∷ bytes) (c ∷ was) zero lt room = refl
copied_more (b ∷ bytes) (c ∷ was) (suc n) lt room =
    let next : suc n + 1 ≡ suc (n + 1) = omega arith in
    ap (λ l. b ∷ l) (copied_more bytes was n (omega (arith, lt)) (omega (arith, room)))
    ∙ sym (ap (λ (k : ℕ). take k (b ∷ bytes) ++ drop k (c ∷ was)) next)

-- one more of them all
pub all_more : (f : ℕ → Bool) (bytes : List ℕ) (n : ℕ) → n < length bytes → list_all f (take n bytes) ≡ true
    → f (get_or bytes n 0) ≡ true → list_all f (take (n + 1) bytes) ≡ true
all_more f [] n lt all one = absurd (omega (arith, lt))
all_more f (b ∷ bytes) zero lt all one = ap (λ x. x && true) one
all_more f (b ∷ bytes) (suc n) lt all one =
    let next : suc n + 1 ≡ suc (n + 1) = omega arith in
    ap (λ (k : ℕ). list_all f (take k (b ∷ bytes))) next
    ∙ ap (λ x. x && list_all f (take (n + 1) bytes)) (left_true (f b) (list_all f (take n bytes)) all)
    ∙ all_more f bytes n (omega (arith, lt)) (right_true (f b) (list_all f (take n bytes)) all) one

-- Fields that hold two prefixes agree exactly where one prefix begins the other.
use Rattle.std.proofs.Common.{◌≡◌, ◌≢◌, ℕ, ◌+◌, ◌-◌, ◌<◌, ◌≤◌, Bool, inl, inr, ⊎_elim, ◌↔◌, List, get_or, take, IsTrue, sym, ap, ◌∙◌, arith}
use Rattle.std.proofs.lemmas.Bool.{cases_lt}
use Rattle.std.proofs.lemmas.Bool.Decides.{same_from_decides}
use Rattle.std.proofs.lemmas.List.{get_or-take, get_or-drop, get_or-replicate}
use Rattle.std.proofs.lemmas.List.Prefix.{front_fits, front_reads}
use Rattle.gs1_ids.specs.Prefix.{Begins, overlap}
use Rattle.gs1_ids.specs.StoredPrefix.{HoldsPrefix, stored_len, AgreeBelow}
use Rattle.gs1_ids.proofs.Prefixes.{Decides-overlap, Begins-from_reads}

digit_at : (d : List ℕ) (n : ℕ) → HoldsPrefix d n → (i : ℕ) → i < n → get_or d i 0 ≢ 0
digit_at d n held i h z =
    let digit = held.prefix.ascii i 0 (omega (arith, stored_len d n held)) in
    let read = get_or-take n d i 0 h in
    omega (arith, digit.0, read, z)

zero_past : (d : List ℕ) (n : ℕ) → HoldsPrefix d n → (i : ℕ) → n ≤ i → i < 16 → get_or d i 0 ≡ 0
zero_past d n held i past h =
    let at : n + (i - n) ≡ i = omega arith in
    ap (λ j. get_or d j 0) (sym at)
    ∙ sym (get_or-drop n d (i - n) 0)
    ∙ ap (λ xs. get_or xs (i - n) 0) held.rest
    ∙ get_or-replicate (16 - n) (i - n) 0 0 (omega arith)

module _ (d e : List ℕ) (n m : ℕ) (held : HoldsPrefix d n) (also : HoldsPrefix e m) where
  agree-Begins : Begins (take n d) (take m e) → AgreeBelow d e 16
  agree-Begins b k h some other =
      let fits = front_fits (take m e) (take n d) b.0 b.1 in
      let longer : n ≤ m = omega (arith, fits, stored_len d n held, stored_len e m also) in
      ⊎_elim
      (λ inside. sym (get_or-take n d k 0 inside)
      ∙ sym (front_reads 0 (take m e) (take n d) b.0 b.1 k (omega (arith, stored_len d n held, inside)))
      ∙ get_or-take m e k 0 (omega (arith, inside, longer)))
      (λ past. absurd (some (zero_past d n held k past h)))
      (cases_lt k n)

  Begins-agree : n ≤ m → AgreeBelow d e 16 → Begins (take n d) (take m e)
  Begins-agree longer agree =
      Begins-from_reads (take n d) (take m e) (omega (arith, stored_len d n held, stored_len e m also))
      (λ i h.
      let inside : i < n = omega (arith, stored_len d n held) in
      let both : i < m = omega arith in
      get_or-take m e i 0 both
      ∙ sym (agree i (omega (arith, held.fits)) (digit_at d n held i inside) (digit_at e m also i both))
      ∙ sym (get_or-take n d i 0 inside))

turned : (d e : List ℕ) (n : ℕ) → AgreeBelow d e n → AgreeBelow e d n
turned d e n agree k h some other = sym (agree k h other some)

pub overlap_is : (d e : List ℕ) (n m : ℕ) (r : Bool)
    → HoldsPrefix d n
    → HoldsPrefix e m
    → IsTrue r ↔ AgreeBelow d e 16
    → r ≡ overlap (take n d) (take m e)
overlap_is d e n m r held also iff =
    same_from_decides r (overlap (take n d) (take m e)) (
      λ h. ⊎_elim
          (λ short. inl (Begins-agree d e n m held also (omega (arith, short)) (iff.0 h)))
          (λ long. inr (Begins-agree e d m n also held long (turned d e 16 (iff.0 h))))
          (cases_lt n m),
      λ b. iff.1 (⊎_elim (agree-Begins d e n m held also) (λ other. turned e d 16 (agree-Begins e d m n also held other)) b),
    )
    (Decides-overlap (take n d) (take m e))

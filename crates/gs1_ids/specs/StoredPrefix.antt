-- How a prefix of four to twelve digits is held in a field of sixteen bytes.
use Rattle.std.specs.Prelude.{◌≡◌, ◌≢◌, ℕ, ◌-◌, ◌<◌, ◌≤◌, slice_index, List, ◌++◌, length, take, drop, replicate}
use Rattle.std.proofs.Common.{ap, subst, sym, ◌∙◌}
use Rattle.std.proofs.lemmas.List.{take-append-drop, length-take-le}
use Rattle.gs1_ids.specs.Prefix.{IsPrefix}

-- the field is n digits of a prefix, and zero bytes
pub record HoldsPrefix (field : List ℕ) (n : ℕ) : Type 0 where
  pub whole : length field ≡ 16
  pub fits : n ≤ 16
  pub prefix : IsPrefix (take n field)
  pub rest : drop n field ≡ replicate (16 - n) 0

-- so the digits give back their number and the field
pub stored_len : (field : List ℕ) (n : ℕ) → HoldsPrefix field n → length (take n field) ≡ n
stored_len field n h = length-take-le n field (subst (λ k. n ≤ k) (sym h.whole) h.fits)

pub stored_digits : (field : List ℕ) (n : ℕ) → HoldsPrefix field n
    → take n field ++ replicate (16 - length (take n field)) 0 ≡ field
stored_digits field n h =
    ap (λ k. take n field ++ replicate (16 - k) 0) (stored_len field n h) ∙ ap (λ xs. take n field
    ++ xs) (sym h.rest) ∙ take-append-drop n field

-- below a place two fields agree wherever neither holds a zero byte
abbrev pub AgreeBelow : List ℕ → List ℕ → ℕ → Type 0
AgreeBelow ours theirs n = (k : ℕ) → k < n → slice_index ours k ≢ 0 → slice_index theirs k ≢ 0
    → slice_index ours k ≡ slice_index theirs k

-- Digits in a field that is longer: zeros before a GTIN, zero bytes after a prefix.
use Rattle.std.proofs.Common.{◌≡◌, ℕ, zero, suc, ◌+◌, ◌-◌, ◌%◌, ◌<◌, ◌≤◌, List, [], ◌∷◌, ◌++◌, length, get_or, take, drop}
use Rattle.std.proofs.Common.{replicate, refl, sym, ap, ◌∙◌, subst, arith, length-append, length-drop}
use Rattle.std.specs.Char.{IsAsciiDigit}
use Rattle.std.proofs.lemmas.List.{append-nil, take-replicate, drop-replicate, drop_all, take_at, drop_at, length-replicate}
use Rattle.std.proofs.lemmas.List.Elements.{All-cons}
use borrow.Rule.Slice.PartMut.{put_mid}
use Rattle.gs1_ids.specs.Digits.{IsKey, check, digit_value, weighted_sum}
use Rattle.gs1_ids.specs.Prefix.{IsPrefix}
use Rattle.gs1_ids.specs.StoredPrefix.{HoldsPrefix}

-- what a write over the end of a field of zeros leaves
pub filled_left : (text part : List ℕ)
    → length text ≤ 14
    → part ≡ text
    → put_mid (14 - length text) (14 - (14 - length text)) (replicate 14 48) part ≡ replicate (14 - length text) 48 ++ text
filled_left text part fits same =
    let a = 14 - length text in
    let zeros : List ℕ = replicate 14 48 in
    let left : take a zeros ≡ replicate a 48 = take-replicate a 14 48 (omega arith) in
    let right : drop (14 - a) (drop a zeros) ≡ [] = drop_all (14 - a) (drop a zeros) (omega (arith, length-drop a zeros)) in
    ap (λ xs. xs ++ (part ++ drop (14 - a) (drop a zeros))) left
    ∙ ap (λ xs. replicate a 48 ++ (part ++ xs)) right
    ∙ ap (λ xs. replicate a 48 ++ xs) (append-nil part ∙ same)

-- and over the front of a field of zero bytes
pub filled_right : (text part : List ℕ)
    → length text ≤ 16
    → part ≡ text
    → part ++ drop (length text) (replicate 16 0) ≡ text ++ replicate (16 - length text) 0
filled_right text part fits same =
    ap (λ xs. xs ++ drop (length text) (replicate 16 0)) same ∙ ap (λ xs. text ++ xs) (drop-replicate (length text) 16 0)

-- a zero on the left adds nothing to the sum
check-zero : (xs : List ℕ) → check (48 ∷ xs) ≡ check xs
check-zero xs = let same : weighted_sum (48 ∷ xs) ≡ weighted_sum xs = omega arith in ap (λ s. (10 - s % 10) % 10) same

IsKey-zero : (m : ℕ) (xs : List ℕ) → IsKey (suc m) xs → IsKey (suc (suc m)) (48 ∷ xs)
IsKey-zero m xs key = record {
  len = ap suc key.len;
  ascii = All-cons IsAsciiDigit 48 xs (omega arith, omega arith) key.ascii;
  checked = checked_at (suc (suc m) - 1) (omega arith);
}
  where
    before : (j : ℕ) → j ≡ suc m - 1 → digit_value (get_or xs j 0) ≡ check (take j xs)
    before j e = rw e key.checked

    checked_at : (j : ℕ) → j ≡ suc m → digit_value (get_or (48 ∷ xs) j 0) ≡ check (take j (48 ∷ xs))
    checked_at j e = rw e (before m (omega arith) ∙ sym (check-zero (take m xs)))

-- a key after zeros is a longer key
pub IsKey-zeros : (k m n : ℕ) (xs : List ℕ) → n ≡ k + suc m → IsKey (suc m) xs → IsKey n (replicate k 48 ++ xs)
IsKey-zeros zero m n xs e key = let same : suc m ≡ n = omega arith in subst (λ t. IsKey t xs) same key
IsKey-zeros (suc k) m n xs e key =
    let same : suc (suc (k + m)) ≡ n = omega arith in
    subst (λ t. IsKey t (48 ∷ (replicate k 48 ++ xs))) same
    (IsKey-zero (k + m) (replicate k 48 ++ xs) (IsKey-zeros k m (suc (k + m)) xs (omega arith) key))

-- the same at a length
pub IsKey-filled : (xs : List ℕ) → 0 < length xs → length xs ≤ 14 → IsKey (length xs) xs → IsKey 14 (replicate (14 - length xs) 48 ++ xs)
IsKey-filled xs some fits key =
    let same : length xs ≡ suc (length xs - 1) = omega arith in
    IsKey-zeros (14 - length xs) (length xs - 1) 14 xs (omega arith) (subst (λ t. IsKey t xs) same key)

-- digits before zero bytes hold the prefix that the digits are
pub HoldsPrefix-filled : (text : List ℕ) → IsPrefix text → HoldsPrefix (text ++ replicate (16 - length text) 0) (length text)
HoldsPrefix-filled text prefix =
    let rest : List ℕ = replicate (16 - length text) 0 in
    record {
      whole = omega (arith, length-append text rest, length-replicate {A = ℕ} (16 - length text) 0, prefix.most);
      fits = omega (arith, prefix.most);
      prefix = subst IsPrefix (sym (take_at text rest (length text) refl)) prefix;
      rest = drop_at text rest (length text) refl;
    }

-- The first line of bytes, one byte after another.
use Rattle.std.proofs.Common.{◌≡◌, ℕ, suc, zero, ◌+◌, ◌-◌, ◌<◌, Bool, true, false, if◌then◌else◌, List, [], ◌∷◌, ◌++◌, length}
use Rattle.std.proofs.Common.{take, drop, get_or, Option, Some, None, refl, sym, ap, ◌∙◌, subst, arith}
use Rattle.std.specs.Prelude.{IfSome}
use Rattle.std.proofs.lemmas.List.{append_assoc, drop_more, take_more}
use Rattle.hub_commands.specs.Key.{at_line_end, first_line, key_in, key_read_limit, line_limit}

-- a byte that begins no line end is kept, and then what is kept of those after it
kept_first : (n : ℕ) (byte : ℕ) (rest : List ℕ) → at_line_end (byte ∷ rest) ≡ false
    → take (n + 1) (first_line (byte ∷ rest)) ≡ byte ∷ take n (first_line rest)
kept_first n byte rest is =
    let on : n + 1 ≡ suc n = omega arith in
    rw (on, is) refl

-- the same at this place of the bytes
pub kept_more : (bytes : List ℕ) (i : ℕ) → i < length bytes → i < line_limit → at_line_end (drop i bytes) ≡ false
    → take i bytes ++ take (line_limit - i) (first_line (drop i bytes))
    ≡ take (i + 1) bytes ++ take (line_limit - (i + 1)) (first_line (drop (i + 1) bytes))
kept_more bytes i within below is =
    let byte = get_or bytes i 0 in
    let rest = drop (i + 1) bytes in
    let here : drop i bytes ≡ byte ∷ rest = drop_more bytes i 0 within in
    let less : line_limit - i ≡ (line_limit - (i + 1)) + 1 = omega (arith, below) in
    let one : take (line_limit - i) (first_line (drop i bytes)) ≡ byte ∷ take (line_limit - (i + 1)) (first_line rest) =
    rw (less, here) (kept_first (line_limit - (i + 1)) byte rest (subst (λ (l : List ℕ). at_line_end l ≡ false) here is)) in
    ap (λ (l : List ℕ). take i bytes ++ l) one
    ∙ sym (append_assoc (take i bytes) (byte ∷ []) (take (line_limit - (i + 1)) (first_line rest)))
    ∙ sym (ap (λ (l : List ℕ). l ++ take (line_limit - (i + 1)) (first_line rest)) (take_more bytes i 0 within))

-- whether a line end comes next is seen of two bytes
same_end : (n : ℕ) (byte : ℕ) (rest : List ℕ) → at_line_end (byte ∷ take (suc n) rest) ≡ at_line_end (byte ∷ rest)
same_end n byte [] = refl
same_end n byte (next ∷ rest) = refl

-- one byte more, whether it begins a line end or not
kept_either : (n : ℕ) (ends : Bool) (byte : ℕ) (front rest : List ℕ) → take n front ≡ take n rest
    → take (suc n) (if ends then [] else byte ∷ front) ≡ take (suc n) (if ends then [] else byte ∷ rest)
kept_either n true byte front rest same = refl
kept_either n false byte front rest same = ap (λ (l : List ℕ). byte ∷ l) same

-- what is kept of the first bytes is what is kept of all
pub kept_of_front : (n : ℕ) (bytes : List ℕ) → take n (first_line (take (suc n) bytes)) ≡ take n (first_line bytes)
kept_of_front zero bytes = refl
kept_of_front (suc n) [] = refl
kept_of_front (suc n) (byte ∷ rest) =
    rw (same_end n byte rest)
    (kept_either n (at_line_end (byte ∷ rest)) byte (first_line (take (suc n) rest)) (first_line rest) (kept_of_front n rest))

-- the key in what was read of a source is that in all its bytes, where these are known
pub key_of_read : (known : Option (List ℕ)) (read key : List ℕ) → IfSome known (λ bytes. read ≡ take key_read_limit bytes)
    → key ≡ key_in read
    → IfSome known (λ bytes. key ≡ key_in bytes)
key_of_read None read key is found = tt
key_of_read (Some bytes) read key is found = found ∙ ap key_in is ∙ kept_of_front line_limit bytes

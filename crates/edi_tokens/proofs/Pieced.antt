-- Parts of a piece.
use Rattle.std.proofs.Common.{◌≡◌, ℕ, ◌+◌, ◌-◌, ◌<◌, ◌≤◌, List, ◌++◌, take, drop, length, Option, sym, ap, subst, ◌∙◌, arith}
use Rattle.std.proofs.lemmas.List.{drop-take, drop-drop, take_at, length-take-le}
use Rattle.std.specs.Io.KnownBytes.{Consumes}
use Rattle.edi_tokens.specs.Piece.{ReadsFront, FillsWith}

pub skipped : (items : List ℕ) (from end count : ℕ) → count ≤ end - from
    → take (end - (from + count)) (drop (from + count) items) ≡ drop count (take (end - from) (drop from items))
skipped items from end count le =
    let less : end - (from + count) ≡ (end - from) - count = omega arith in
    let sum : count + ((end - from) - count) ≡ end - from = omega arith in
    ap (λ (n : ℕ). take n (drop (from + count) items)) less
    ∙ ap (take ((end - from) - count)) (sym (drop-drop count from items))
    ∙ sym (drop-take count ((end - from) - count) (drop from items))
    ∙ ap (λ (n : ℕ). drop count (take n (drop from items))) sum

-- what was read into the front of a buffer is the piece
pub filled : (old new : Option (List ℕ)) (buffer items : List ℕ) (len room count : ℕ) → ReadsFront old new buffer room count
    → length buffer ≡ len → 0 < len
    → FillsWith old new (take (count - 0) (drop 0 (take len (buffer ++ drop (length buffer) items)))) room count
filled old new buffer items len room count r same_length not_empty =
    let front : take len (buffer ++ drop (length buffer) items) ≡ buffer = take_at buffer (drop (length buffer) items) len same_length in
    let n : count - 0 ≡ count = omega arith in
    let same : take (count - 0) (drop 0 (take len (buffer ++ drop (length buffer) items))) ≡ take count buffer =
    ap (λ (k : ℕ). take k (take len (buffer ++ drop (length buffer) items))) n ∙ ap (take count) front in
    record {
      consumed = subst (Consumes old new) (sym same) r.consumed;
      count_is = ap length same ∙ length-take-le count buffer r.inside;
      within = r.within;
      ends = λ none some. r.ends none some (omega arith);
    }

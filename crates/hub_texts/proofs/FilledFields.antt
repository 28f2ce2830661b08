-- Shows the text of digits that are written over blanks.
use Rattle.std.proofs.Common.{◌≡◌, ℕ, ◌+◌, ◌-◌, ◌≤◌, min, List, ◌++◌, length, take, drop}
use Rattle.std.proofs.Common.{sym, ap, ◌∙◌, arith, length-append, append_assoc}
use Rattle.std.proofs.lemmas.List.{take_at, take-take, take-append-drop, drop-append-le, take-replicate, drop-replicate}
use Rattle.std.proofs.lemmas.List.{length-replicate, replicate-append-replicate}
use Rattle.hub_law.specs.Widths.{blanks, right}

-- what comes from a position before the digits on
from_before : (from start all : ℕ) (field behind : List ℕ)
    → from ≤ start
    → start ≤ all
    → take start field ≡ take start (blanks all)
    → drop start field ≡ behind
    → drop from field ≡ blanks (start - from) ++ behind
from_before from start all field behind before fits front back =
    ap (λ xs. drop from xs) (
    sym (take-append-drop start field)
    ∙ ap (λ xs. xs ++ drop start field) (front ∙ take-replicate start all 0x20 fits)
    ∙ ap (λ xs. blanks start ++ xs) back
    )
    ∙ drop-append-le from (blanks start) behind (omega (arith, length-replicate {A = ℕ} start 0x20))
    ∙ ap (λ xs. xs ++ behind) (drop-replicate from start 0x20)

-- this many blanks and the digits, without what follows them
up_to_digits : (count blank gap width : ℕ) (digits rest : List ℕ)
    → count ≡ blank + length digits
    → blank ≡ gap + (width - length digits)
    → take count (blanks blank ++ (digits ++ rest)) ≡ blanks gap ++ right width digits
up_to_digits count blank gap width digits rest whole parts =
    ap (λ xs. take count xs) (sym (append_assoc (blanks blank) digits rest))
    ∙ take_at (blanks blank ++ digits) rest count
    (omega (arith, length-append (blanks blank) digits, length-replicate {A = ℕ} blank 0x20))
    ∙ ap (λ k. blanks k ++ digits) parts
    ∙ ap (λ xs. xs ++ digits) (sym (replicate-append-replicate gap (width - length digits) 0x20))
    ∙ append_assoc (blanks gap) (blanks (width - length digits)) digits

-- the field that ends where the digits end
pub filled : (all end from start gap width : ℕ) (digits field : List ℕ)
    → from ≡ min start (end - width) - gap
    → gap + width ≤ end
    → gap + length digits ≤ end
    → end ≤ all
    → start + length digits ≡ end
    → take start field ≡ take start (blanks all)
    → drop start field ≡ digits ++ drop end (blanks all)
    → take (end - from) (take (from + end - from) (drop from field)) ≡ blanks gap ++ right width digits
filled all end from start gap width digits field e wide long within ends front back =
    take-take (end - from) (from + end - from) (drop from field) (omega arith)
    ∙ ap (λ xs. take (end - from) xs) (from_before from start all field _ (omega arith) (omega arith) front back)
    ∙ up_to_digits (end - from) (start - from) gap width digits (drop end (blanks all)) (omega arith) (omega arith)

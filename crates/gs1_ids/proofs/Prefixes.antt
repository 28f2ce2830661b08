-- What begins what.
use Rattle.std.proofs.Common.{◌≡◌, ℕ, ◌<◌, ◌≤◌, Bool, ◌⊎◌, inl, inr, ⊎_elim, ◌↔◌, List, length, get_or, drop, IsTrue}
use Rattle.std.proofs.Common.{Decides, sym, ◌∙◌, refl, arith}
use Rattle.std.proofs.lemmas.Bool.{cases_lt}
use Rattle.std.proofs.lemmas.Bool.Decides.{Decides-eqb, Decides-or}
use Rattle.std.proofs.lemmas.List.Prefix.{front_from_reads, front_reads}
use Rattle.std.proofs.lemmas.Slice.Eq.{starts_is}
use Rattle.gs1_ids.specs.Overlap.{PrefixesOfOneOverlap}
use Rattle.gs1_ids.specs.Prefix.{Begins, begins, overlap}

-- the tests decide the facts
pub Decides-begins : (p xs : List ℕ) → Decides (begins p xs) (Begins p xs)
Decides-begins p xs =
    let s = starts_is Decides-eqb xs p (begins p xs) refl in
    (λ h. (drop (length p) xs, s.0 h), λ (b : Begins p xs). s.1 b.0 b.1)

pub begins-iff : (p xs : List ℕ) (r : Bool) → r ≡ begins p xs → IsTrue r ↔ Begins p xs
begins-iff p xs r e = let d = Decides-begins p xs in (λ h. d.0 (sym e ∙ h), λ b. e ∙ d.1 b)

pub Decides-overlap : (p q : List ℕ) → Decides (overlap p q) (Begins p q ⊎ Begins q p)
Decides-overlap p q = Decides-or (begins p q) (begins q p) (Decides-begins p q) (Decides-begins q p)

pub Begins-from_reads : (p xs : List ℕ) → length p ≤ length xs → ((i : ℕ) → i < length p → get_or xs i 0 ≡ get_or p i 0) → Begins p xs
Begins-from_reads p xs fits reads = (drop (length p) xs, front_from_reads 0 xs p fits reads)

-- of two prefixes of one list, the shorter begins the longer
pub prefixes_overlap : PrefixesOfOneOverlap
prefixes_overlap p q xs a b =
    (Decides-overlap p q).1
    (⊎_elim (λ short. inl (shorter p q a b (omega (arith, short)))) (λ long. inr (shorter q p b a long))
    (cases_lt (length p) (length q)))
  where
    shorter : (r s : List ℕ) → Begins r xs → Begins s xs → length r ≤ length s → Begins r s
    shorter r s first second fits =
        Begins-from_reads r s fits (λ i h.
        sym (front_reads 0 xs s second.0 second.1 i (omega (arith, h, fits))) ∙ front_reads 0 xs r first.0 first.1 i h)

-- References of one length are the same where the references are.
use Rattle.std.proofs.Common.{◌≡◌, ℕ, zero, suc, ◌-◌, ◌≤◌, true, false, List, [], ◌∷◌, ◌++◌, length, replicate, refl, sym, ap, ◌∙◌}
use Rattle.std.proofs.Common.{arith, inl, inr, map, map-id, Ordering, ◌||◌}
use Rattle.std.specs.List.{list_all, list_any}
use Rattle.std.specs.Ordering.{nat_cmp}
use Rattle.std.specs.Cmp.Lexicographic.{slice_cmp}
use Rattle.std.specs.BTreeMap.{is_at}
use Rattle.std.specs.BTreeSet.{insert_key}
use Rattle.std.proofs.lemmas.Map.Text.{is_eq-slice_cmp}
use Rattle.std.proofs.lemmas.Map.Lookups.{exact_bytes}
use Rattle.edi_base.specs.Seen.{is_among}
use Rattle.edi_base.proofs.Twice.{among-insert, contains-among}
use Rattle.std.specs.Str.{bytes_eq}
use Rattle.std.proofs.lemmas.Bool.{and_parts, cases_Bool, leb-true, true≢false}
use Rattle.std.proofs.lemmas.Bool.Decides.{same_from_decides}
use Rattle.std.proofs.lemmas.Slice.Eq.{bytes_eq-Decides}
use Rattle.edi_base.specs.Limits.{is_printable}
use Rattle.edi_envelope.specs.Limits.{is_reference}
use Rattle.edi_envelope.specs.Reference.{filled_reference}

-- a printable byte is not zero
printable_least : (b : ℕ) → is_printable b ≡ true → 32 ≤ b
printable_least b h = leb-true 32 b (and_parts _ _ h).0

zeros_begin : (n b : ℕ) (rest : List ℕ) → 32 ≤ b → replicate n 0 ≡ b ∷ rest → ⊥
zeros_begin zero b rest le e = absurd cc
zeros_begin (suc n) b rest le e = let zero_is : 0 ≡ b = cc in omega arith

-- printable bytes with zeros behind them
same_filled : (xs ys : List ℕ) (m n : ℕ)
    → list_all is_printable xs ≡ true
    → list_all is_printable ys ≡ true
    → xs ++ replicate m 0 ≡ ys ++ replicate n 0
    → xs ≡ ys
same_filled [] [] m n p q e = refl
same_filled [] (y ∷ ys) m n p q e =
    absurd (zeros_begin m y (ys ++ replicate n 0) (printable_least y (and_parts _ _ q).0) e)
same_filled (x ∷ xs) [] m n p q e =
    absurd (zeros_begin n x (xs ++ replicate m 0) (printable_least x (and_parts _ _ p).0) (sym e))
same_filled (x ∷ xs) (y ∷ ys) m n p q e =
    let first : x ≡ y = cc in
    let others : xs ++ replicate m 0 ≡ ys ++ replicate n 0 = cc in
    let rest = same_filled xs ys m n (and_parts _ _ p).1 (and_parts _ _ q).1 others in
    ap (λ b. b ∷ xs) first ∙ ap (λ bs. y ∷ bs) rest

pub filled_of_reference : (text : List ℕ) → is_reference text ≡ true → filled_reference text ≡ text ++ replicate (14 - length text) 0
filled_of_reference text h = rw h refl

filled_of_other : (text : List ℕ) → is_reference text ≡ false → filled_reference text ≡ replicate 14 0
filled_of_other text h = rw h refl

-- what is no reference is kept as none is
none_differs : (other text : List ℕ) → is_reference other ≡ false → is_reference text ≡ true
    → filled_reference other ≡ filled_reference text → ⊥
none_differs other [] not_one is e = true≢false (sym is)
none_differs other (b ∷ rest) not_one is e =
    zeros_begin 14 b (rest ++ replicate (14 - length (b ∷ rest)) 0)
    (printable_least b (and_parts _ _ (and_parts _ _ is).1).0)
    (sym (filled_of_other other not_one) ∙ e ∙ filled_of_reference (b ∷ rest) is)

pub filled_again : (other text : List ℕ) → is_reference text ≡ true → filled_reference other ≡ filled_reference text → other ≡ text
filled_again other text is e =
    elim (cases_Bool (is_reference other)) [
      | inl too ↦
          same_filled other text (14 - length other) (14 - length text) (and_parts _ _ too).1 (and_parts _ _ is).1
          (sym (filled_of_reference other too) ∙ e ∙ filled_of_reference text is)
      | inr not_one ↦ absurd (none_differs other text not_one is e)
    ]

-- references are compared as they are kept
pub filled_eq : (other text : List ℕ) → is_reference text ≡ true
    → bytes_eq (filled_reference other) (filled_reference text) ≡ bytes_eq other text
filled_eq other text is =
    let as_kept = bytes_eq-Decides (filled_reference other) (filled_reference text) in
    let as_is = bytes_eq-Decides other text in
    same_from_decides (bytes_eq (filled_reference other) (filled_reference text)) (bytes_eq other text) as_kept
    ((λ t. ap filled_reference (as_is.0 t)), (λ e. as_is.1 (filled_again other text is e)))

-- ---- references that are kept in a set, in the order of their bytes
abbrev pub itself : List ℕ → List ℕ
itself text = text

abbrev pub by_bytes : List ℕ → List ℕ → Ordering
by_bytes = slice_cmp nat_cmp

unmapped : (keys : List (List ℕ)) → map itself keys ≡ keys
unmapped keys = map-id keys

pub reference-insert : (q : List ℕ) (keys : List (List ℕ)) (k : List ℕ)
    → is_among q (insert_key by_bytes keys k) ≡ (bytes_eq q k || is_among q keys)
reference-insert q keys k =
    ap (is_among q) (sym (unmapped (insert_key by_bytes keys k)))
    ∙ among-insert itself by_bytes bytes_eq exact_bytes is_eq-slice_cmp q keys k
    ∙ ap (λ l. bytes_eq q k || is_among q l) (unmapped keys)

pub contains-reference : (q : List ℕ) (keys : List (List ℕ)) → list_any (is_at (by_bytes q)) keys ≡ is_among q keys
contains-reference q keys =
    contains-among itself by_bytes bytes_eq exact_bytes is_eq-slice_cmp q keys ∙ ap (is_among q) (unmapped keys)

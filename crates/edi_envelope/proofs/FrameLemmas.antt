-- An interchange that begins with UNB and ends with UNZ.
use Rattle.std.proofs.Common.{◌≡◌, ℕ, suc, ◌-◌, ◌≤◌, List, [], ◌∷◌, length, take, true, false, refl, sym, ap, ◌∙◌, arith, codes}
use Rattle.std.specs.Str.{bytes_eq}
use Rattle.std.proofs.lemmas.Bool.{and_parts, true≢false, false≢true}
use Rattle.std.proofs.lemmas.Slice.Eq.{bytes_eq-Decides}
use Rattle.edi_segments.specs.declared.segment.Segment.{Segment}
use Rattle.edi_envelope.specs.Segments.{is_unb, is_unz, first_segment, last_segment, between}
use Rattle.edi_envelope.specs.Blocks.{before_message, blocks}
use Rattle.edi_envelope.specs.Interchange.{is_framed}

-- a segment with the first tag has not the second
pub other_tag : (tag a b : List ℕ) → bytes_eq a b ≡ false → bytes_eq tag a ≡ true → bytes_eq tag b ≡ false
other_tag tag a b differ h = let same = (bytes_eq-Decides tag a).0 h in ap (λ t. bytes_eq t b) same ∙ differ

pub framed_unb : (xs : List Segment) → is_framed xs ≡ true → is_unb (first_segment xs) ≡ true
unfolding is_framed
framed_unb xs h = (and_parts _ _ (and_parts _ _ h).0).0

pub framed_unz : (xs : List Segment) → is_framed xs ≡ true → is_unz (last_segment xs) ≡ true
unfolding is_framed
framed_unz xs h = (and_parts _ _ (and_parts _ _ h).0).1

framed_case : (xs : List Segment) → is_unb (first_segment xs) ≡ true → is_unz (last_segment xs) ≡ true → 2 ≤ length xs
framed_case [] b z = absurd (false≢true b)
framed_case (x ∷ []) b z = absurd (true≢false (sym z ∙ other_tag x.tag (codes "UNB") (codes "UNZ") refl b))
framed_case (x ∷ y ∷ xs) b z = omega arith

pub framed_length : (xs : List Segment) → is_framed xs ≡ true → 2 ≤ length xs
framed_length xs h = framed_case xs (framed_unb xs h) (framed_unz xs h)

-- without the last segment
pub front_is : (xs : List Segment) → 2 ≤ length xs → take (length xs - 1) xs ≡ first_segment xs ∷ between xs
front_is [] h = absurd (omega arith)
front_is (x ∷ []) h = absurd (omega arith)
front_is (x ∷ y ∷ ys) h = let back : suc (suc (length ys)) - 1 ≡ suc (length ys) = omega arith in rw back refl

pub framed_before : (xs : List Segment)
    → is_framed xs ≡ true
    → before_message (take (length xs - 1) xs) ≡ first_segment xs ∷ before_message (between xs)
framed_before xs h =
    let no_unh = other_tag (first_segment xs).tag (codes "UNB") (codes "UNH") refl (framed_unb xs h) in
    ap before_message (front_is xs (framed_length xs h)) ∙ rw no_unh refl

pub framed_blocks : (xs : List Segment) → is_framed xs ≡ true → blocks (take (length xs - 1) xs) ≡ blocks (between xs)
framed_blocks xs h =
    let no_unh = other_tag (first_segment xs).tag (codes "UNB") (codes "UNH") refl (framed_unb xs h) in
    ap blocks (front_is xs (framed_length xs h)) ∙ rw no_unh refl

-- What has come before, on the way along segments.
use Rattle.std.proofs.Common.{◌≡◌, ℕ, ◌+◌, ◌<◌, nat_eq, Bool, true, false, not, ◌&&◌, ◌||◌, if◌then◌else◌, List, [], ◌∷◌, drop}
use Rattle.std.proofs.Common.{◌-◌, length, get_or, take, sym, ap, subst, ◌∙◌, arith}
use Rattle.std.specs.Prelude.{is_some}
use Rattle.std.specs.Str.{bytes_eq}
use Rattle.std.proofs.lemmas.List.{drop_more, take_all, length-drop}
use Rattle.edi_base.specs.Seen.{comes_among, is_among}
use Rattle.edi_segments.specs.declared.segment.Segment.{Segment}
use Rattle.edi_places.specs.Envelope.{first_repeat_place}
use Rattle.edi_envelope.specs.Segments.{no_segment}
use Rattle.edi_goods.specs.Units.{unit_of, has_identifier, sscc, sscc_or_none}
use Rattle.edi_places.specs.Goods.{begins_unit, begins_wrong_unit, ssccs_with, place_in_unit, first_unit_place}
use Rattle.edi_places.specs.Orders.{first_line_place}

-- the references that have come are seen, and none of them comes twice
pub record RepeatsFrom (segments : List Segment) (place : ℕ) (seen : List (List ℕ)) : Type 0 where
  pub come : List (List ℕ)
  pub same : (text : List ℕ) → is_among text seen ≡ is_among text come
  pub left : first_repeat_place [] segments ≡ place + first_repeat_place come (drop place segments)

-- the same of line numbers
pub record LinesFrom (segments : List Segment) (place : ℕ) (seen : List ℕ) : Type 0 where
  pub come : List ℕ
  pub same : (number : ℕ) → comes_among nat_eq number seen ≡ comes_among nat_eq number come
  pub left : first_line_place [] segments ≡ place + first_line_place come (drop place segments)

-- the same of the SSCC of units
pub record UnitsFrom (segments : List Segment) (place : ℕ) (seen : List (List ℕ)) : Type 0 where
  pub come : List (List ℕ)
  pub same : (text : List ℕ) → is_among text seen ≡ is_among text come
  pub left : first_unit_place [] segments ≡ place + first_unit_place come (drop place segments)

one_unit : (come : List (List ℕ)) (segment : Segment) (rest : List Segment)
    → begins_wrong_unit come (segment ∷ rest) ≡ false
    → first_unit_place come (segment ∷ rest) ≡ 1 + first_unit_place (ssccs_with come (segment ∷ rest)) rest
one_unit come segment rest right =
    ap (λ (t : Bool). if t then place_in_unit (unit_of (segment ∷ rest))
    else 1 + first_unit_place (ssccs_with come (segment ∷ rest)) rest) right

same_with : (t : Bool) (sscc : List ℕ) (seen come : List (List ℕ)) (text : List ℕ) → is_among text seen ≡ is_among text come
    → is_among text (if t then sscc ∷ seen else seen) ≡ is_among text (if t then sscc ∷ come else come)
same_with true sscc seen come text h = ap (λ rest. bytes_eq text sscc || rest) h
same_with false sscc seen come text h = h

-- one more segment, at which no wrong unit begins
more_units : (segments : List Segment) (place : ℕ) (seen new : List (List ℕ)) → place < length segments
    → UnitsFrom segments place seen
    → begins_wrong_unit seen (drop place segments) ≡ false
    → ((text : List ℕ) → is_among text new ≡ is_among text (ssccs_with seen (drop place segments)))
    → UnitsFrom segments (place + 1) new
more_units segments place seen new within s right grown =
    let here : List Segment = drop place segments in
    let rest : List Segment = drop (place + 1) segments in
    let first : Segment = get_or segments place no_segment in
    let split : here ≡ first ∷ rest = drop_more segments place no_segment within in
    let same_right : begins_wrong_unit s.come here ≡ false =
    ap (λ (t : Bool). begins_unit here && not (has_identifier (unit_of here) && (is_some (sscc (unit_of here)) && not t)))
    (sym (s.same (sscc_or_none (unit_of here)))) ∙ right in
    let more : first_unit_place s.come here ≡ 1 + first_unit_place (ssccs_with s.come here) rest =
    ap (first_unit_place s.come) split
    ∙ one_unit s.come first rest (subst (λ (l : List Segment). begins_wrong_unit s.come l ≡ false) split same_right)
    ∙ ap (λ (l : List Segment). 1 + first_unit_place (ssccs_with s.come l) rest) (sym split) in
    record {
      come = ssccs_with s.come here;
      same = λ text.
          grown text ∙ same_with (begins_unit here) (sscc_or_none (unit_of here)) seen s.come text (s.same text);
      left = omega (arith, s.left, more);
    }

-- the same, where what is left is a slice
pub more_of_slice : (segments : List Segment) (place : ℕ) (seen new : List (List ℕ)) → place < length segments
    → UnitsFrom segments place seen
    → begins_wrong_unit seen (take (length segments - place) (drop place segments)) ≡ false
    → ((text : List ℕ) → is_among text new
    ≡ is_among text (ssccs_with seen (take (length segments - place) (drop place segments))))
    → UnitsFrom segments (place + 1) new
more_of_slice segments place seen new within s right grown =
    let all : take (length segments - place) (drop place segments) ≡ drop place segments =
    take_all (length segments - place) (drop place segments) (omega (arith, length-drop place segments)) in
    more_units segments place seen new within s (subst (λ (l : List Segment). begins_wrong_unit seen l ≡ false) all right)
    (λ text. grown text ∙ ap (λ (l : List Segment). is_among text (ssccs_with seen l)) all)

-- The fault of an interchange, at its end.
use Rattle.std.proofs.Common.{◌≡◌, Bool, true, false, not, ◌&&◌, ◌||◌, List, [], ◌∷◌, ◌++◌, length, map, drop, refl, sym, ap, ◌∙◌}
use Rattle.std.proofs.Common.{append_assoc, append-nil, Option, Some, None, inl, inr}
use Rattle.std.specs.Prelude.{nat_lt, nat_le}
use Rattle.std.specs.List.{list_any, list_all}
use Rattle.std.specs.Str.{bytes_eq}
use Rattle.std.proofs.lemmas.Bool.{and_parts, or_parts, cases_Bool, ltb-false, le-leb, not-false, false≢true}
use Rattle.std.proofs.lemmas.List.Folds.{list_any-append}
use Rattle.edi_base.specs.Limits.{is_count_of}
use Rattle.edi_base.specs.Seen.{has_twice}
use Rattle.edi_segments.specs.declared.segment.Segment.{Segment}
use Rattle.edi_envelope.specs.declared.fault.EnvelopeFault.{EnvelopeFault}
use Rattle.edi_envelope.specs.declared.fault.EnvelopeFault.TheVariants.{InterchangeFrame}
use Rattle.edi_envelope.specs.declared.header.HeaderMarks.{HeaderMarks}
use Rattle.edi_envelope.specs.declared.check.EnvelopeCheck.{EnvelopeCheck}
use Rattle.edi_envelope.specs.declared.check.EnvelopeConditions.{EnvelopeConditions}
use Rattle.edi_envelope.specs.Segments.{is_unz, component, first_segment, last_segment, between}
use Rattle.edi_envelope.specs.Limits.{is_reference}
use Rattle.edi_envelope.specs.Header.{is_valid_header, is_test}
use Rattle.edi_envelope.specs.Blocks.{blocks}
use Rattle.edi_envelope.specs.Message.{is_within_limits, is_counted, is_closed, reference_of}
use Rattle.edi_envelope.specs.Reference.{filled_reference}
use Rattle.edi_envelope.specs.Interchange.{is_framed, is_row_of_messages, is_outside_set, has_high_data, messages_in, fault_of}
use Rattle.edi_envelope.specs.Check.{has_identity, has_count, follows, marks_of, Fronted, IsBetween}
use Rattle.edi_envelope.specs.Check.{IsEnded, marks_at, lowest_of, lost_fault, is_sound}
use Rattle.edi_envelope.proofs.JoinLemmas.{last_of, between_of}
use Rattle.edi_envelope.proofs.ReferenceLemmas.{filled_eq}
use Rattle.edi_envelope.proofs.RowLemmas.{framed_by, framed_once, is_row, row_follows}
use Rattle.edi_envelope.proofs.TallyLemmas.{within_both}

and_or : (a b c : Bool) → (a && (b || (c || false))) ≡ ((a && b) || (a && c))
and_or true true c = refl
and_or true false true = refl
and_or true false false = refl
and_or false b c = refl

-- one more segment, whose bytes may be outside of the character set
pub outside_more : (lent : List Segment) (s : Segment) (h : HeaderMarks) (old new : Bool)
    → Fronted lent h
    → old ≡ is_outside_set lent
    → new ≡ (old || (h.seven_bit && has_high_data s))
    → new ≡ is_outside_set (lent ++ s ∷ [])
unfolding is_outside_set
outside_more [] s h old new f before is = absurd (false≢true f.begins)
outside_more (u ∷ m) s h old new f before is =
    let seven = ap (λ (k : HeaderMarks). k.seven_bit) f.header_is in
    is ∙ ap (λ b. b || (h.seven_bit && has_high_data s)) before
    ∙ ap (λ b. is_outside_set (u ∷ m) || (b && has_high_data s)) seven
    ∙ sym (ap (λ b. (marks_of u).seven_bit && b) (list_any-append has_high_data (u ∷ m) (s ∷ []))
    ∙ and_or (marks_of u).seven_bit (list_any has_high_data (u ∷ m)) (has_high_data s))

-- the conditions of segments as they are defined
abbrev exact : List Segment → EnvelopeConditions
exact xs = record {
  interchange_header = not (is_valid_header (first_segment xs));
  message_header = not (list_all is_within_limits (messages_in xs));
  segment_count = not (list_all is_counted (messages_in xs));
  message_reference = not (list_all is_closed (messages_in xs));
  message_count = not (is_count_of (component (last_segment xs) 0 0) (length (messages_in xs)));
  control_reference = not (bytes_eq (component (last_segment xs) 1 0) (component (first_segment xs) 4 0));
  repeated_reference = has_twice (map reference_of (messages_in xs));
  test_indicator = is_test (first_segment xs);
  too_many_messages = nat_lt 999 (length (messages_in xs));
  character_set = is_outside_set xs;
}

pub fault_of-frame : (xs : List Segment) → is_framed xs ≡ false → fault_of xs ≡ Some InterchangeFrame
unfolding fault_of
fault_of-frame xs h = rw h refl

fault_of-row : (xs : List Segment) → is_framed xs ≡ true → is_row_of_messages xs ≡ true → fault_of xs ≡ lowest_of (exact xs)
unfolding fault_of
fault_of-row xs f r = rw (f, r) refl

fault_of-lost : (xs : List Segment) (h : HeaderMarks) → is_framed xs ≡ true →
    is_row_of_messages xs ≡ false → h.taken ≡ is_valid_header (first_segment xs)
    → fault_of xs ≡ Some (lost_fault h)
unfolding fault_of
fault_of-lost xs h f r taken =
    elim (cases_Bool (is_valid_header (first_segment xs))) [
      | inl is ↦ rw (f, r, is, taken ∙ is) refl
      | inr not_so ↦ rw (f, not_so, taken ∙ not_so) refl
    ]

lowest_same : (a b : EnvelopeConditions)
    → a.interchange_header ≡ b.interchange_header
    → a.message_header ≡ b.message_header
    → a.segment_count ≡ b.segment_count
    → (a.message_header ≡ false → a.message_reference ≡ b.message_reference)
    → a.message_count ≡ b.message_count
    → (a.interchange_header ≡ false → a.control_reference ≡ b.control_reference)
    → (a.message_header ≡ false → a.repeated_reference ≡ b.repeated_reference)
    → a.test_indicator ≡ b.test_indicator
    → a.too_many_messages ≡ b.too_many_messages
    → a.character_set ≡ b.character_set
    → lowest_of a ≡ lowest_of b
lowest_same a b header limits counts references messages control twice test many outside =
    elim (cases_Bool a.interchange_header) [
      | inl up ↦ rw (up, sym header ∙ up) refl
      | inr down ↦ elim (cases_Bool a.message_header) [
        | inl up ↦ rw (down, sym header ∙ down, up, sym limits ∙ up) refl
        | inr low ↦
            rw (
              down,
              sym header ∙ down,
              low,
              sym limits ∙ low,
              counts,
              references low,
              messages,
              control down,
              twice low,
              test,
              many,
              outside,
            ) refl
      ]
    ]

is_row_of : (xs : List Segment) → is_row_of_messages xs ≡ is_row (between xs)
unfolding is_row_of_messages
is_row_of xs = refl

-- UNZ, where messages may stand
module _ (u : Segment) (m : List Segment) (z : Segment) (h : HeaderMarks) (f : Fronted (u ∷ m) h) (unz : is_unz z ≡ true) where
  abbrev whole : List Segment
  whole = u ∷ m ++ z ∷ []

  framed : is_framed whole ≡ true
  framed = framed_by u m z f.begins f.alone unz

  closes : (fault : Option EnvelopeFault) → fault_of whole ≡ fault → IsEnded whole fault
  closes fault is = record {
    fault_is = is;
    last = λ s more. ap (λ l. is_framed (u ∷ l)) (append_assoc m (z ∷ []) (s ∷ more)) ∙ framed_once u m z s more unz;
  }

  row_is : is_row_of_messages whole ≡ follows false m
  row_is = is_row_of whole ∙ ap is_row (between_of u m z) ∙ row_follows m

  taken_is : h.taken ≡ is_valid_header u
  taken_is = ap (λ (k : HeaderMarks). k.taken) f.header_is

  lost_at : follows false m ≡ false → IsEnded whole (Some (lost_fault h))
  lost_at row = closes (Some (lost_fault h)) (fault_of-lost whole h framed (row_is ∙ row) taken_is)

reference_in : (unb : Segment) → is_valid_header unb ≡ true → is_reference (component unb 4 0) ≡ true
reference_in unb h = (and_parts _ _ (and_parts _ _ h).0).1

pub ends_lost : (lent : List Segment) (z : Segment) (h : HeaderMarks) →
    Fronted lent h → is_unz z ≡ true → follows false (drop 1 lent) ≡ false
    → IsEnded (lent ++ z ∷ []) (Some (lost_fault h))
ends_lost [] z h f unz row = absurd (false≢true f.begins)
ends_lost (u ∷ m) z h f unz row = lost_at u m z h f unz row

-- the marks of the check are the conditions, where they decide the fault
module _ (u : Segment) (m : List Segment) (z : Segment) (j : EnvelopeCheck) (r : IsBetween (u ∷ m) j) (unz : is_unz z ≡ true) where
  abbrev all : List Segment
  all = u ∷ m ++ z ∷ []

  bs : List (List Segment)
  bs = blocks m

  messages_are : messages_in all ≡ blocks m
  messages_are = ap blocks (between_of u m z)

  ends : last_segment all ≡ z
  ends = last_of u m z

  in_row : follows false m ≡ true
  in_row = ap (follows false) (sym (append-nil m)) ∙ r.row []

  identified : j.headers.identified ≡ list_all (λ message. has_identity (first_segment message)) (blocks m)
  identified = r.heads.identified

  within : list_all is_within_limits (messages_in all) ≡ (j.headers.identified && j.trailers.within)
  within =
      ap (list_all is_within_limits) messages_are ∙ sym (within_both (blocks m))
      ∙ ap (λ b. b && list_all has_count (blocks m)) (sym identified)
      ∙ ap (λ b. j.headers.identified && b) (sym r.trails.within)

  -- the limits of all headers are kept
  known : not (list_all is_within_limits (messages_in all)) ≡ false → j.headers.identified ≡ true
  known e = (and_parts _ _ (sym within ∙ not-false _ e)).0

  marked : fault_of all ≡ lowest_of (marks_at j z)
  marked =
      fault_of-row all (framed u m z j.header r.fronted unz) (row_is u m z j.header r.fronted unz ∙ in_row)
      ∙ lowest_same (exact all) (marks_at j z)
      (ap not (sym (taken_is u m z j.header r.fronted unz)))
      (ap not within)
      (ap not (ap (list_all is_counted) messages_are ∙ sym r.trails.counted))
      (λ e. ap not (ap (list_all is_closed) messages_are ∙ sym (r.trails.closed (sym identified ∙ known e))))
      (ap not (ap (λ x. is_count_of (component x 0 0) (length (messages_in all))) ends
      ∙ ap (λ l. is_count_of (component z 0 0) (length l)) messages_are
      ∙ ap (is_count_of (component z 0 0)) (sym r.heads.count)))
      (λ e. ap not (ap (λ x. bytes_eq (component x 1 0) (component u 4 0)) ends
      ∙ sym (filled_eq (component z 1 0) (component u 4 0) (reference_in u (not-false _ e)))
      ∙ ap (λ (k : HeaderMarks). bytes_eq (filled_reference (component z 1 0)) k.reference) (sym r.fronted.header_is)))
      (λ e. ap (λ l. has_twice (map reference_of l)) messages_are ∙ sym (r.heads.twice (known e)))
      (ap (λ (k : HeaderMarks). k.test) (sym r.fronted.header_is))
      (ap (λ l. nat_lt 999 (length l)) messages_are ∙ ap (nat_lt 999) (sym r.heads.count))
      (sym (outside_more (u ∷ m) z j.header j.outside _ r.fronted r.outside refl))

  row_at : IsEnded all (lowest_of (marks_at j z))
  row_at = closes u m z j.header r.fronted unz (lowest_of (marks_at j z)) marked

pub ends_in_row : (lent : List Segment) (z : Segment) (j : EnvelopeCheck) → IsBetween lent j →
    is_unz z ≡ true → IsEnded (lent ++ z ∷ []) (lowest_of (marks_at j z))
ends_in_row [] z j r unz = absurd (false≢true r.fronted.begins)
ends_in_row (u ∷ m) z j r unz = row_at u m z j r unz

-- nothing is marked
record Unmarked (m : EnvelopeConditions) : Type 0 where
  pub interchange_header : m.interchange_header ≡ false
  pub message_header : m.message_header ≡ false
  pub segment_count : m.segment_count ≡ false
  pub message_reference : m.message_reference ≡ false
  pub repeated_reference : m.repeated_reference ≡ false
  pub test_indicator : m.test_indicator ≡ false
  pub too_many_messages : m.too_many_messages ≡ false
  pub character_set : m.character_set ≡ false

abbrev marks : Bool → Bool → Bool → Bool → Bool → Bool → Bool → Bool → Bool → Bool → EnvelopeConditions
marks a b c d e f g h i k = record {
  interchange_header = a;
  message_header = b;
  segment_count = c;
  message_reference = d;
  message_count = e;
  control_reference = f;
  repeated_reference = g;
  test_indicator = h;
  too_many_messages = i;
  character_set = k;
}

unmarked : (a b c d e f g h i k : Bool) → lowest_of (marks a b c d e f g h i k) ≡ None → Unmarked (marks a b c d e f g h i k)
unmarked true b c d e f g h i k n = absurd cc
unmarked false true c d e f g h i k n = absurd cc
unmarked false false true d e f g h i k n = absurd cc
unmarked false false false true e f g h i k n = absurd cc
unmarked false false false false true f g h i k n = absurd cc
unmarked false false false false false true g h i k n = absurd cc
unmarked false false false false false false true h i k n = absurd cc
unmarked false false false false false false false true i k n = absurd cc
unmarked false false false false false false false false true k n = absurd cc
unmarked false false false false false false false false false true n = absurd cc
unmarked false false false false false false false false false false n =
    record {
      interchange_header = refl;
      message_header = refl;
      segment_count = refl;
      message_reference = refl;
      repeated_reference = refl;
      test_indicator = refl;
      too_many_messages = refl;
      character_set = refl;
    }

pub lowest_none : (j : EnvelopeCheck) (z : Segment) → lowest_of (marks_at j z) ≡ None → is_sound j ≡ true
lowest_none j z n =
    let m = marks_at j z in
    let none = unmarked _ _ _ _ _ _ _ _ _ _ n in
    let both = and_parts j.headers.identified j.trailers.within (not-false _ none.message_header) in
    let few : nat_le j.headers.messages 999 ≡ true = le-leb _ _ (ltb-false _ _ none.too_many_messages) in
    let taken : j.header.taken ≡ true = not-false _ none.interchange_header in
    let counted : j.trailers.counted ≡ true = not-false _ none.segment_count in
    let closed : j.trailers.closed ≡ true = not-false _ none.message_reference in
    let inside : j.outside ≡ false = (or_parts j.outside _ none.character_set).0 in
    let once : j.headers.twice ≡ false = none.repeated_reference in
    let productive : j.header.test ≡ false = none.test_indicator in
    rw (taken, productive, inside, both.0, once, few, both.1, counted, closed) refl

-- One more message, in what the headers and the trailers say.
use Rattle.std.proofs.Common.{◌≡◌, ℕ, ◌+◌, Bool, true, false, not, ◌&&◌, ◌||◌, ◌⊎◌, inl, inr, List, [], ◌∷◌, ◌++◌, length, map, refl}
use Rattle.std.proofs.Common.{sym, ap, ◌∙◌, length-append}
use Rattle.std.specs.List.{list_all}
use Rattle.std.specs.Str.{bytes_eq}
use Rattle.std.proofs.lemmas.Bool.{and_parts, true≢false}
use Rattle.std.proofs.lemmas.List.{map_push}
use Rattle.std.proofs.lemmas.List.Folds.{list_all-append, list_any-append}
use Rattle.std.proofs.Math.Bool.{and-true, or_assoc}
use Rattle.edi_base.specs.Limits.{is_count, is_count_of}
use Rattle.edi_base.specs.Seen.{is_among, has_twice}
use Rattle.edi_base.proofs.Twice.{bytes_eq-sym}
use Rattle.edi_segments.specs.declared.segment.Segment.{Segment}
use Rattle.edi_envelope.specs.declared.tally.Headers.{Headers}
use Rattle.edi_envelope.specs.declared.tally.Trailers.{Trailers}
use Rattle.edi_envelope.specs.Segments.{component, first_segment, last_segment}
use Rattle.edi_envelope.specs.Limits.{is_reference}
use Rattle.edi_envelope.specs.Reference.{filled_reference}
use Rattle.edi_envelope.specs.Message.{reference_of, is_counted, is_closed, is_within_limits}
use Rattle.edi_envelope.specs.Check.{has_identity, has_count, Heads, Trails}
use Rattle.edi_envelope.proofs.ReferenceLemmas.{filled_eq}
use Rattle.edi_envelope.proofs.RowLemmas.{at_end}

pub all_more : {X : Type 0} (p : X → Bool) (xs : List X) (x : X) → list_all p (xs ++ x ∷ []) ≡ (list_all p xs && p x)
all_more p xs x = list_all-append p xs (x ∷ []) ∙ ap (λ b. list_all p xs && b) (and-true (p x))

or_shuffle : (a b c d : Bool) → ((a || b) || (c || d)) ≡ ((b || c) || (a || d))
or_shuffle true true c d = refl
or_shuffle true false true d = refl
or_shuffle true false false d = refl
or_shuffle false b c d = sym (or_assoc b c d)

or_turned : (a b : Bool) → (a || (b || false)) ≡ (b || a)
or_turned true true = refl
or_turned true false = refl
or_turned false true = refl
or_turned false false = refl

among-push : (q : List ℕ) (texts : List (List ℕ)) (text : List ℕ) → is_among q (texts ++ text ∷ []) ≡ (bytes_eq q text || is_among q texts)
among-push q texts text = list_any-append (bytes_eq q) texts (text ∷ []) ∙ or_turned (is_among q texts) (bytes_eq q text)

-- one more text comes again, or none did before
twice_more : (texts : List (List ℕ)) (text : List ℕ) → has_twice (texts ++ text ∷ []) ≡ (has_twice texts || is_among text texts)
twice_more [] text = refl
twice_more (t ∷ texts) text =
    ap (λ b. b || has_twice (texts ++ text ∷ [])) (among-push t texts text)
    ∙ ap (λ b. (bytes_eq t text || is_among t texts) || b) (twice_more texts text)
    ∙ or_shuffle (bytes_eq t text) (is_among t texts) (has_twice texts) (is_among text texts)
    ∙ ap (λ b. (is_among t texts || has_twice texts) || (b || is_among text texts)) (bytes_eq-sym t text)

module _ (messages : List (List Segment)) (h : Headers) (unh : Segment) (heads : Heads messages h) where
  abbrev more : List (List Segment)
  more = messages ++ (unh ∷ []) ∷ []

  abbrev text : List ℕ
  text = component unh 0 0

  references : map reference_of more ≡ map reference_of messages ++ text ∷ []
  references = map_push reference_of messages (unh ∷ [])

  identified_more : list_all (λ message. has_identity (first_segment message)) more
      ≡ (list_all (λ message. has_identity (first_segment message)) messages && has_identity unh)
  identified_more = all_more (λ message. has_identity (first_segment message)) messages (unh ∷ [])

  count_more : length more ≡ length messages + 1
  count_more = length-append messages ((unh ∷ []) ∷ [])

  known : (h.identified && has_identity unh) ≡ true → (h.identified ≡ true) × (is_reference text ≡ true)
  known e =
      let parts = and_parts h.identified (has_identity unh) e in
      (parts.0, (and_parts _ _ (and_parts _ _ (and_parts _ _ (and_parts _ _ (and_parts _ _ parts.1).0).0).0).0).0)

  -- a fault is sure, and the reference is not looked up
  pub heads_skipped : (identified : Bool) (count : ℕ)
      → identified ≡ (h.identified && has_identity unh)
      → count ≡ h.messages + 1
      → (identified ≡ false) ⊎ (h.twice ≡ true)
      → Heads more (record { identified = identified; messages = count; twice = h.twice; seen = h.seen })
  heads_skipped identified count is n sure = record {
    identified = is ∙ ap (λ b. b && has_identity unh) heads.identified ∙ sym identified_more;
    count = n ∙ ap (λ m. m + 1) heads.count ∙ sym count_more;
    twice = λ e. elim sure [
      | inl not_so ↦ absurd (true≢false (sym e ∙ not_so))
      | inr twice ↦
          let before = sym (heads.twice (known (sym is ∙ e)).0) ∙ twice in
          twice ∙ sym (ap has_twice references ∙ twice_more (map reference_of messages) text
          ∙ ap (λ b. b || is_among text (map reference_of messages)) before)
    ];
    seen = λ e once. elim sure [
      | inl not_so ↦ absurd (true≢false (sym e ∙ not_so))
      | inr twice ↦ absurd (true≢false (sym twice ∙ once))
    ];
  }

  -- the reference is looked up, and put in
  pub heads_seen : (identified : Bool) (count : ℕ) (twice : Bool) (seen : List (List ℕ))
      → identified ≡ (h.identified && has_identity unh)
      → count ≡ h.messages + 1
      → identified ≡ true
      → h.twice ≡ false
      → twice ≡ is_among (filled_reference text) h.seen
      → ((other : List ℕ) → is_among other seen ≡ (bytes_eq other (filled_reference text) || is_among other h.seen))
      → Heads more (record { identified = identified; messages = count; twice = twice; seen = seen })
  heads_seen identified count twice seen is n yes_so once found put =
      let both = known (sym is ∙ yes_so) in
      let among : is_among (filled_reference text) h.seen ≡ is_among text (map reference_of messages) =
      heads.seen both.0 once text both.1 in
      record {
        identified = is ∙ ap (λ b. b && has_identity unh) heads.identified ∙ sym identified_more;
        count = n ∙ ap (λ m. m + 1) heads.count ∙ sym count_more;
        twice = λ e.
            found ∙ among
            ∙ sym (ap has_twice references ∙ twice_more (map reference_of messages) text
            ∙ ap (λ b. b || is_among text (map reference_of messages)) (sym (heads.twice both.0) ∙ once));
        seen = λ e e2 other reference.
            put (filled_reference other) ∙ ap (λ b. b || is_among (filled_reference other) h.seen) (filled_eq other text both.1)
            ∙ ap (λ b. bytes_eq other text || b) (heads.seen both.0 once other reference)
            ∙ sym (ap (is_among other) references ∙ among-push other (map reference_of messages) text);
      }

module _ (messages : List (List Segment)) (t : Trailers) (unh : Segment) (body : List Segment) (unt : Segment)
    (trails : Trails messages t) where
  abbrev block : List Segment
  block = unh ∷ body ++ unt ∷ []

  last_is : last_segment block ≡ unt
  last_is = at_end unh body unt

  length_is : length block ≡ length (unh ∷ body) + 1
  length_is = length-append (unh ∷ body) (unt ∷ [])

  pub trails_more : (count : ℕ) (within counted closed : Bool)
      → count ≡ length (unh ∷ body) + 1
      → within ≡ (t.within && is_count (component unt 0 0))
      → counted ≡ (t.counted && is_count_of (component unt 0 0) count)
      → closed ≡ (t.closed && bytes_eq (filled_reference (component unt 1 0)) (filled_reference (component unh 0 0)))
      → Trails (messages ++ block ∷ []) (record { within = within; counted = counted; closed = closed })
  trails_more count within counted closed n is_within is_counted_so is_closed_so = record {
    within =
        is_within ∙ ap (λ b. b && is_count (component unt 0 0)) trails.within
        ∙ ap (λ s. list_all has_count messages && is_count (component s 0 0)) (sym last_is) ∙ sym (all_more has_count messages block);
    counted =
        is_counted_so ∙ ap (λ b. b && is_count_of (component unt 0 0) count) trails.counted
        ∙ ap (λ m. list_all is_counted messages && is_count_of (component unt 0 0) m) (n ∙ sym length_is)
        ∙ ap (λ s. list_all is_counted messages && is_count_of (component s 0 0) (length block)) (sym last_is)
        ∙ sym (all_more is_counted messages block);
    closed = λ e.
        let parts = and_parts _ _ (sym (all_more (λ message. has_identity (first_segment message)) messages block) ∙ e) in
        let reference : is_reference (component unh 0 0) ≡ true =
        (and_parts _ _ (and_parts _ _ (and_parts _ _ (and_parts _ _ (and_parts _ _ parts.1).0).0).0).0).0 in
        is_closed_so ∙ ap (λ b. b && bytes_eq (filled_reference (component unt 1 0)) (filled_reference (component unh 0 0)))
        (trails.closed parts.0)
        ∙ ap (λ b. list_all is_closed messages && b) (filled_eq (component unt 1 0) (component unh 0 0) reference)
        ∙ ap (λ s. list_all is_closed messages && bytes_eq (component s 1 0) (component unh 0 0)) (sym last_is)
        ∙ sym (all_more is_closed messages block);
  }

-- the limits of UNH and of UNT are those of a message
and_swap : (a b c d : Bool) → ((a && b) && (c && d)) ≡ ((a && c) && (b && d))
and_swap true true c d = refl
and_swap true false true d = refl
and_swap true false false d = refl
and_swap false b c d = refl

pub within_both : (messages : List (List Segment))
    → (list_all (λ message. has_identity (first_segment message)) messages && list_all has_count messages)
    ≡ list_all is_within_limits messages
within_both [] = refl
within_both (m ∷ ms) =
    and_swap (has_identity (first_segment m))
    (list_all (λ message. has_identity (first_segment message)) ms) (has_count m) (list_all has_count ms)
    ∙ ap (λ b. is_within_limits m && b) (within_both ms)

pub not_not : (b : Bool) → not (not b) ≡ b
not_not true = refl
not_not false = refl

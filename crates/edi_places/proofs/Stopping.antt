-- How far the machine of a text has come, and what it has counted.
use Rattle.std.proofs.Common.{◌≡◌, ℕ, ◌+◌, ◌-◌, ◌<◌, ◌≤◌, Bool, true, false, nat_eq, List, [], ◌∷◌, ◌++◌, length, get_or, take, drop}
use Rattle.std.proofs.Common.{min, Result, Ok, Err, refl, sym, ap, ◌∙◌, arith, if◌then◌else◌, filter}
use mir.Val.{bool_byte}
use Rattle.std.proofs.lemmas.List.{drop_more, drop_all, take_all, take_min, length-append}
use Rattle.edi_segments.specs.declared.segment.Segment.{Segment}
use Rattle.edi_segments.specs.declared.machine.Machine.{Machine}
use Rattle.edi_segments.specs.declared.fault.TokenFault.{TokenFault}
use Rattle.edi_segments.specs.Reading.{Reading, start, step, run, ◌>>=◌}
use Rattle.edi_segments.specs.Machine.{reading_of, after, segment_of}
use Rattle.edi_segments.specs.Spelling.{text_limit}
use Rattle.edi_tokens.proofs.Lent.{run_lent, run_lent_fails}
use Rattle.edi_places.specs.Text.{unless_fault, front, reached, line_feeds, place_behind}
use Rattle.edi_places.specs.declared.text.TextPlace.{TextPlace}

-- what the machine has done of the bytes before a place, and what is left
pub record HasReachedPlace (bytes : List ℕ) (machine : Machine) (offset line segment : ℕ) : Type 0 where
  pub lent : List Segment
  pub counted : segment ≡ length lent + 1
  pub front_is : offset + length (front (reading_of lent machine) (drop offset bytes)) ≡ length (front start bytes)
  pub line_is : line + line_feeds (front (reading_of lent machine) (drop offset bytes)) ≡ line_feeds (front start bytes) + 1
  pub reached_is : reached (reading_of lent machine) (drop offset bytes) ≡ reached start bytes
  pub few_lines : line ≤ offset + 1
  pub few_segments : segment ≤ offset + 1

pub begins : (bytes : List ℕ) (machine : Machine) → reading_of [] machine ≡ start → HasReachedPlace bytes machine 0 1 1
begins bytes machine is = record {
  lent = [];
  counted = refl;
  front_is = omega (arith, ap (λ (r : Reading). length (front r bytes)) is);
  line_is = omega (arith, ap (λ (r : Reading). line_feeds (front r bytes)) is);
  reached_is = ap (λ (r : Reading). reached r bytes) is;
  few_lines = omega arith;
  few_segments = omega arith;
}

abbrev bit : Bool → ℕ
bit there = bool_byte there

one_step : (s : Result Reading TokenFault) (next : Result Reading TokenFault) → (s >>= λ n. run n []) ≡ next → s ≡ next
one_step (Ok n) next e = e
one_step (Err fault) next e = e

front_more : (r next : Reading) (b : ℕ) (rest : List ℕ) → step r b ≡ Ok next → front r (b ∷ rest) ≡ b ∷ front next rest
front_more r next b rest e = ap (unless_fault [] (λ n. b ∷ front n rest)) e

reached_more : (r next : Reading) (b : ℕ) (rest : List ℕ) → step r b ≡ Ok next → reached r (b ∷ rest) ≡ reached next rest
reached_more r next b rest e = ap (unless_fault r (λ n. reached n rest)) e

feeds_more : (b : ℕ) (rest : List ℕ) → line_feeds (b ∷ rest) ≡ bit (nat_eq b 10) + line_feeds rest
feeds_more b rest = elim (nat_eq b 10) as
    (λ t. length (if t then b ∷ filter (λ b. nat_eq b 10) rest else filter (λ b. nat_eq b 10) rest) ≡ bit t + line_feeds rest) [
      | true ↦ omega arith
      | false ↦ omega arith
    ]

bit_small : (t : Bool) → bit t ≤ 1
bit_small true = omega arith
bit_small false = omega arith

-- one more byte
module _ (bytes : List ℕ) (machine next : Machine) (offset line segment : ℕ) (within : offset < length bytes)
    (s : HasReachedPlace bytes machine offset line segment) where
  byte : ℕ
  byte = get_or bytes offset 0

  left : List ℕ
  left = drop (offset + 1) bytes

  -- the segments that ended are these
  goes : (lent : List Segment) (ended : Bool) → step (reading_of s.lent machine) (get_or bytes offset 0) ≡ Ok (reading_of lent next)
      → length lent ≡ length s.lent + bit ended
      → HasReachedPlace bytes next (offset + 1) (line + bit (nat_eq (get_or bytes offset 0) 10)) (segment + bit ended)
  goes lent ended e count =
      let split = drop_more bytes offset 0 within in
      let front_now = ap (front (reading_of s.lent machine)) split
      ∙ front_more (reading_of s.lent machine) (reading_of lent next) (get_or bytes offset 0) (drop (offset + 1) bytes) e in
      let feeds = ap line_feeds front_now ∙ feeds_more (get_or bytes offset 0) (front (reading_of lent next) (drop (offset + 1) bytes)) in
      let small = bit_small ended in
      let small_line = bit_small (nat_eq (get_or bytes offset 0) 10) in
      record {
        lent = lent;
        counted = omega (arith, s.counted, count);
        front_is = omega (arith, s.front_is, ap length front_now);
        line_is = omega (arith, s.line_is, feeds);
        reached_is = sym (ap (reached (reading_of s.lent machine)) split ∙ reached_more (reading_of s.lent machine)
            (reading_of lent next) (get_or bytes offset 0) (drop (offset + 1) bytes) e) ∙ s.reached_is;
        few_lines = omega (arith, s.few_lines, small_line);
        few_segments = omega (arith, s.few_segments, small);
      }

  pub more : (ended : Bool) → run (reading_of [] machine) (get_or bytes offset 0 ∷ []) ≡ Ok (after [] ended next)
      → HasReachedPlace bytes next (offset + 1) (line + bit (nat_eq (get_or bytes offset 0) 10)) (segment + bit ended)
  more true e =
      goes (s.lent ++ segment_of next.open ∷ []) true
      (one_step _ _ (run_lent s.lent machine next true (get_or bytes offset 0 ∷ []) e)) (length-append s.lent (segment_of next.open ∷ []))
  more false e =
      goes s.lent false (one_step _ _ (run_lent s.lent machine next false (get_or bytes offset 0 ∷ []) e)) (omega arith)

-- what a slice of one byte is
one_byte : (bytes : List ℕ) (offset : ℕ) → offset < length bytes
    → take (offset + 1 - offset) (drop offset bytes) ≡ get_or bytes offset 0 ∷ []
one_byte bytes offset within =
    let one : offset + 1 - offset ≡ 1 = omega arith in
    ap (λ (n : ℕ). take n (drop offset bytes)) one ∙ ap (take 1) (drop_more bytes offset 0 within)

-- what was taken of one byte is this byte
pub taken_one : (bytes : List ℕ) (machine next : Machine) (offset count : ℕ) (ended : Bool) → offset < length bytes
    → count ≤ length (take (offset + 1 - offset) (drop offset bytes))
    → (ended ≡ false → count ≡ length (take (offset + 1 - offset) (drop offset bytes)))
    → (ended ≡ true → 0 < count)
    → run (reading_of [] machine) (take count (take (offset + 1 - offset) (drop offset bytes))) ≡ Ok (after [] ended next)
    → run (reading_of [] machine) (get_or bytes offset 0 ∷ []) ≡ Ok (after [] ended next)
taken_one bytes machine next offset count ended within most whole some e =
    let one = one_byte bytes offset within in
    let all : 1 ≤ count = all_of ended one most whole some in
    let same : take count (take (offset + 1 - offset) (drop offset bytes)) ≡ get_or bytes offset 0 ∷ [] =
    ap (take count) one ∙ take_all count (get_or bytes offset 0 ∷ []) all in
    sym (ap (run (reading_of [] machine)) same) ∙ e
  where
    all_of : (ended : Bool) → take (offset + 1 - offset) (drop offset bytes) ≡ get_or bytes offset 0 ∷ []
        → count ≤ length (take (offset + 1 - offset) (drop offset bytes))
        → (ended ≡ false → count ≡ length (take (offset + 1 - offset) (drop offset bytes)))
        → (ended ≡ true → 0 < count) → 1 ≤ count
    all_of true one most whole some = omega (arith, some refl)
    all_of false one most whole some = omega (arith, whole refl, ap length one)

same_place : (o p l m s t : ℕ) → o ≡ p → l ≡ m → s ≡ t
    → ◌≡◌ {A = TextPlace} (record { offset = o; line = l; segment = s }) (record { offset = p; line = m; segment = t })
same_place o p l m s t a b c = rw (a, b, c) refl

-- nothing more is taken
stands : (bytes : List ℕ) (machine : Machine) (offset line segment : ℕ) (s : HasReachedPlace bytes machine offset line segment)
    → front (reading_of s.lent machine) (drop offset bytes) ≡ []
    → reached (reading_of s.lent machine) (drop offset bytes) ≡ reading_of s.lent machine
    → ◌≡◌ {A = TextPlace} (record { offset = offset; line = line; segment = segment })
    (place_behind (front start bytes) (reached start bytes))
stands bytes machine offset line segment s none there =
    same_place offset (length (front start bytes)) line
    (line_feeds (front start bytes) + 1) segment (length (reached start bytes).segments + 1)
    (omega (arith, s.front_is, ap length none))
    (omega (arith, s.line_is, ap line_feeds none))
    (s.counted ∙ ap (λ (r : Reading). length r.segments + 1) (sym there ∙ s.reached_is))

-- the byte that shows the fault
pub stops : (bytes : List ℕ) (machine : Machine) (offset line segment : ℕ) (fault : TokenFault) → offset < length bytes
    → HasReachedPlace bytes machine offset line segment
    → run (reading_of [] machine) (take (offset + 1 - offset) (drop offset bytes)) ≡ Err fault
    → ◌≡◌ {A = TextPlace} (record { offset = offset; line = line; segment = segment })
    (place_behind (front start bytes) (reached start bytes))
stops bytes machine offset line segment fault within s e =
    let r = reading_of s.lent machine in
    let split = drop_more bytes offset 0 within in
    let shows = one_step (step r (get_or bytes offset 0)) (Err fault)
    (run_lent_fails s.lent machine (get_or bytes offset 0 ∷ []) fault
    (sym (ap (run (reading_of [] machine)) (one_byte bytes offset within)) ∙ e)) in
    stands bytes machine offset line segment s
    (ap (front r) split ∙ ap (unless_fault [] (λ n. get_or bytes offset 0 ∷ front n (drop (offset + 1) bytes))) shows)
    (ap (reached r) split ∙ ap (unless_fault r (λ n. reached n (drop (offset + 1) bytes))) shows)

-- the end of the bytes
pub ends : (bytes : List ℕ) (machine : Machine) (offset end line segment : ℕ) → offset ≡ end → length bytes ≤ offset
    → HasReachedPlace bytes machine offset line segment
    → ◌≡◌ {A = TextPlace} (record { offset = end; line = line; segment = segment })
    (place_behind (front start bytes) (reached start bytes))
ends bytes machine offset end line segment same within s =
    let none = drop_all offset bytes within in
    let r = reading_of s.lent machine in
    ap (λ (o : ℕ). record { offset = o; line = line; segment = segment }) (sym same)
    ∙ stands bytes machine offset line segment s (ap (front r) none) (ap (reached r) none)

-- the front of a text that is looked at
pub longest : (bytes : List ℕ) (n : ℕ) → n ≡ min (length bytes) text_limit → take n bytes ≡ take text_limit bytes
longest bytes n is = ap (λ (k : ℕ). take k bytes) (is ∙ least) ∙ take_min text_limit bytes
  where
    least : min (length bytes) text_limit ≡ min text_limit (length bytes)
    least = omega arith

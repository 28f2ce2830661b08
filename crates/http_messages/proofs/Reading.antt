-- What the bytes that were read say of the head at the front of all bytes.
use Rattle.std.proofs.Common.{◌≡◌, ℕ, ◌+◌, ◌-◌, ◌≤◌, List, ◌++◌, length, take, drop, map, Option, Some, None, Result}
use Rattle.std.proofs.Common.{Ok, Err, refl, sym, ap, subst, ◌∙◌, arith, length-take-le, take_at}
use Rattle.std.specs.Io.{ReadsAtMost}
use Rattle.std.specs.Io.KnownBytes.{Consumes, IsAtEnd, ReadConsumes}
use Rattle.std.specs.Prelude.{IfOk}
use Rattle.std.specs.Prelude.{IsUtf8}
use Rattle.httparse.specs.Grammar.{RequestHead, ReadsRequest, HasNoRequest, print_request}
use Rattle.httparse.specs.Spans.{IsRequestWithin, IsRequestOf, RequestOverflows, header_bytes, span_bytes, name_and_value}
use Rattle.httparse.specs.declared.spans.HeaderSpan.{HeaderSpan}
use Rattle.httparse.specs.declared.spans.RequestSpans.{RequestSpans}
use Rattle.httparse.proofs.GrammarLemmas.{request_unique, ReadsRequest-append}
use Rattle.std.proofs.lemmas.List.{take-append-drop, take-append-le, append-nil, length-map}
use borrow.Rule.Slice.PartMut.{put_mid, post_of}
use Rattle.std.proofs.Math.Seq.{take-append-add}
use Rattle.edi_base.specs.Source.{TakesPiece}
use Rattle.http_messages.specs.Head.{Heading, HeadIs, Finds, before, shown, heading_of, longest_head, most_fields}

-- bytes have at most one head
pub head_unique : (bytes : List ℕ) (a b : Option Heading) → HeadIs bytes a → HeadIs bytes b → a ≡ b
head_unique bytes None None x y = refl
head_unique bytes None (Some g) x y = absurd (x y.0 g.rest y.1)
head_unique bytes (Some g) None x y = absurd (y x.0 g.rest x.1)
head_unique bytes (Some f) (Some g) x y =
    let same = request_unique bytes x.0 y.0 f.rest g.rest x.1.reads y.1.reads in
    ap Some (x.2 ∙ ap (λ h. heading_of h f.rest) same.0 ∙ ap (λ r. heading_of y.0 r) same.1 ∙ sym y.2)

-- a head of some bytes whose text lies in the front is a head of the front
in_front : (front more : List ℕ) (h : RequestHead) (rest : List ℕ) → length (print_request h) ≤ length front
    → ReadsRequest (front ++ more) h rest → ReadsRequest front h (drop (length (print_request h)) front)
in_front front more h rest fits reads = (
  reads.0,
  let cut : take (length (print_request h)) front ≡ print_request h =
      sym (take-append-le (length (print_request h)) front more fits) ∙ ap (λ l. take (length (print_request h)) l) reads.1 ∙ take_at
      (print_request h) rest _ refl in
      sym (take-append-drop (length (print_request h)) front) ∙ ap (λ l. l ++ drop (length (print_request h)) front) cut,
)

-- the front is full, and holds no whole head
none_in_full : (front more : List ℕ) → longest_head ≤ length front → HasNoRequest front → HeadIs (front ++ more) None
none_in_full front more full none h rest stands =
    let reads = in_front front more h rest (omega (arith, stands.short)) stands.reads in
    none h _ reads

-- whatever follows, there are too many fields
none_in_overflow : (front more : List ℕ) → RequestOverflows most_fields front → HeadIs (front ++ more) None
none_in_overflow front more over h rest stands = absurd (omega (arith, over more h rest stands.reads, stands.few))

-- the fields are as many as the spans
counted : (front : List ℕ) (fields : List HeaderSpan) (r : RequestSpans) (h : RequestHead) → r.headers ≤ length fields
    → map (header_bytes front) (take r.headers fields) ≡ map name_and_value h.fields → length h.fields ≡ r.headers
counted front fields r h fits same =
    let l : length (map (header_bytes front) (take r.headers fields)) ≡ length (map name_and_value h.fields) = ap length same in
    sym (simp length-map at l) ∙ length-take-le r.headers fields fits

-- the spans show the head
some_at : (front more : List ℕ) (fields : List HeaderSpan) (r : RequestSpans) → length fields ≡ most_fields → length front ≤ longest_head
    → IsRequestWithin front fields r → IsRequestOf front fields r → HeadIs (front ++ more) (Some (before more (shown front fields r)))
some_at front more fields r room short within (h, at) = (
  h,
  record {
    reads = ReadsRequest-append front h (drop r.len front) more at.reads;
    short = omega (arith, within.section.len_fits, at.len);
    few = omega (arith, within.section.count_fits, counted front fields r h within.section.count_fits at.fields);
  },
  let made : List ℕ → List ℕ → List (List ℕ × List ℕ)
      → Heading = λ m t f. record { method = m; target = t; fields = f; rest = drop r.len front ++ more } in
      ap (λ m. made m (span_bytes front r.path) (map (header_bytes front) (take r.headers fields))) at.method
      ∙ ap (λ t. made h.method t (map (header_bytes front) (take r.headers fields))) at.path
      ∙ ap (λ f. made h.method h.target f) at.fields,
)

-- the source has given the front, and there is no head whatever follows
finds_none : (old new : Option (List ℕ)) (front : List ℕ) → Consumes old new front → ((more : List ℕ) → HeadIs (front ++ more) None)
    → Finds old new None
finds_none None new front taken none = tt
finds_none (Some known) None front taken none = taken
finds_none (Some known) (Some left) front taken none = let P : List ℕ → Type 0 = λ l. HeadIs l None in subst P (sym taken) (none left)

pub finds_overflow : (old new : Option (List ℕ)) (front : List ℕ) → Consumes old new front → RequestOverflows most_fields front
    → Finds old new None
finds_overflow old new front taken over = finds_none old new front taken (λ more. none_in_overflow front more over)

pub finds_full : (old new : Option (List ℕ)) (front : List ℕ) → Consumes old new front → longest_head ≤ length front → HasNoRequest front
    → Finds old new None
finds_full old new front taken full none = finds_none old new front taken (λ more. none_in_full front more full none)

pub finds_end : (old new : Option (List ℕ)) (front : List ℕ) → Consumes old new front → IsAtEnd new → HasNoRequest front
    → Finds old new None
finds_end None new front taken end none = tt
finds_end (Some known) None front taken end none = taken
finds_end (Some known) (Some left) front taken end none =
    let P : List ℕ → Type 0 = λ l. HeadIs l None in
    subst P (sym (taken ∙ ap (λ l. front ++ l) end ∙ append-nil front)) (λ h rest stands. none h rest stands.reads)

pub finds_some : (old new : Option (List ℕ)) (front : List ℕ) (fields : List HeaderSpan) (r : RequestSpans) → Consumes old new front
    → length fields ≡ most_fields → length front ≤ longest_head → IsRequestWithin front fields r → IsRequestOf front fields r
    → Finds old new (Some (shown front fields r))
finds_some None new front fields r taken room short within is = tt
finds_some (Some known) None front fields r taken room short within is = taken
finds_some (Some known) (Some left) front fields r taken room short within is =
    let P : List ℕ → Type 0 = λ l. HeadIs l (Some (before left (shown front fields r))) in
    subst P (sym taken) (some_at front left fields r room short within is)

-- bytes that were put at the end of those that are there
take-put : (filled room count : ℕ) (bytes buffer : List ℕ) → filled ≤ length bytes → count ≤ length buffer
    → take (filled + count) (put_mid filled room bytes buffer) ≡ take filled bytes ++ take count buffer
take-put filled room count bytes buffer fits few =
    let front : length (take filled bytes) ≡ filled = length-take-le filled bytes fits in
    ap (λ n. take (n + count) (put_mid filled room bytes buffer)) (sym front)
    ∙ take-append-add (take filled bytes) (buffer ++ post_of filled room bytes) count
    ∙ ap (λ l. take filled bytes ++ l) (take-append-le count buffer (post_of filled room bytes) few)

-- what one read puts behind the bytes that are there
pub read_behind : {E : Type 0} (r : Result ℕ E) (old new : Option (List ℕ)) (filled : ℕ) (bytes buffer : List ℕ) → filled ≤ length bytes
    → length buffer ≡ length bytes - filled → ReadsAtMost r buffer → ReadConsumes old new r buffer
    → IfOk r (λ count. TakesPiece old new (take filled bytes)
    (take (filled + count) (put_mid filled (length bytes - filled) bytes buffer)) (length bytes - filled) count)
read_behind {E} (Err e) old new filled bytes buffer fits room bound read = tt
read_behind {E} (Ok count) old new filled bytes buffer fits room bound read = record {
  bytes = take count buffer;
  consumed = read.0;
  after_is = take-put filled (length bytes - filled) count bytes buffer fits bound.0;
  count_is = sym bound.1;
  within = omega (arith, bound.0, room);
  ends = λ none some. read.1 none (omega (arith, some, room));
}

-- the target is text
pub target_text : (front : List ℕ) (fields : List HeaderSpan) (r : RequestSpans) → IsRequestOf front fields r → IsUtf8
    (span_bytes front r.path)
target_text front fields r (h, at) = subst IsUtf8 (sym at.path) at.reads.0.target_text

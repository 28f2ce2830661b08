-- A byte that shows nothing leads from one valid front of a text to the next.
use Rattle.std.proofs.Common.{◌≡◌, ◌≢◌, ℕ, ◌+◌, ◌<◌, ◌≤◌, Bool, true, false, List, [], ◌∷◌, ◌++◌, length, map, Option, Some}
use Rattle.std.proofs.Common.{None, refl, sym, ap, subst, ◌∙◌, append_assoc, append-nil, arith, inl, inr}
use Rattle.std.specs.Prelude.{IsTrue, ◌||◌, not}
use Rattle.std.proofs.lemmas.List.{map-append, length-append, length_push}
use Rattle.std.proofs.lemmas.Bool.{true≢false}
use Rattle.edi_segments.specs.declared.segment.Service.{Service}
use Rattle.edi_segments.specs.declared.segment.Segment.{Segment}
use Rattle.edi_segments.specs.Characters.{is_data, is_special, is_capital, is_digit, is_line_end}
use Rattle.edi_segments.specs.Service.{usual, una_tag, service_of}
use Rattle.edi_segments.specs.Spelling.{segment_limit, Each, Behind, Before, SpellsByte, SpellsComponent, SpellsElement}
use Rattle.edi_segments.specs.Spelling.{SpellsSegment, SpellsNext, SpellsWhole, LineEnds, IsTag, tags, Advice, Advises}
use Rattle.edi_segments.specs.Spelling.{advice_text, without_empty_end}
use Rattle.edi_segments.specs.Reading.{Open, with_tag, with_byte, with_component, with_element, with_release, closed_elements}
use Rattle.edi_tokens.specs.Fault.{is_fresh, EndsOutside, EndsInService, EndsInTag, IsTagFront, SpellsOpen, EndsInData, EndsReleased}
use Rattle.edi_tokens.proofs.Parts.{Each-push, LineEnds-push, grows, tag_length}

-- ---- outside of segments

pub line_end_after : (text : List ℕ) (s : Service) (segments : List Segment) (fresh : Bool) (b : ℕ)
    → EndsOutside text s segments fresh
    → IsTrue (is_line_end b)
    → EndsOutside (text ++ b ∷ []) s segments fresh
line_end_after text s segments fresh b e h = record {
  whole = record {
    advice = e.whole.advice;
    body = e.whole.body;
    tail = e.whole.tail ++ b ∷ [];
    text_is = grows text (advice_text e.whole.advice ++ e.whole.body) e.whole.tail b e.whole.text_is;
    advises = e.whole.advises;
    body_spells = e.whole.body_spells;
    tail_is = LineEnds-push e.whole.tail b e.whole.tail_is h;
  };
  fresh_is = e.fresh_is;
}

one_is_no_una : (b : ℕ) → b ∷ [] ≢ una_tag
one_is_no_una b e = cc

two_are_no_una : (a b : ℕ) → a ∷ b ∷ [] ≢ una_tag
two_are_no_una a b e = cc

pub tag_begins : (text : List ℕ) (s : Service) (segments : List Segment) (fresh : Bool) (b : ℕ)
    → EndsOutside text s segments fresh
    → IsTrue (is_capital b)
    → EndsInTag (text ++ b ∷ []) s segments fresh (b ∷ [])
tag_begins text s segments fresh b e h = record {
  before = text;
  text_is = refl;
  before_ends = e;
  tag_is = h;
  no_advice = λ _. one_is_no_una b;
}

-- ---- in a tag

pub tag_goes_on : (text : List ℕ) (s : Service) (segments : List Segment) (fresh : Bool) (tag : List ℕ) (b : ℕ)
    → EndsInTag text s segments fresh tag
    → length tag < 3
    → IsTrue (is_capital b || is_digit b)
    → (fresh ≡ true → tag ++ b ∷ [] ≢ una_tag) → EndsInTag (text ++ b ∷ []) s segments fresh (tag ++ b ∷ [])
tag_goes_on text s segments fresh tag b e short h not_una = record {
  before = e.before;
  text_is = grows text e.before tag b e.text_is;
  before_ends = e.before_ends;
  tag_is = tag_front tag b e.tag_is short h;
  no_advice = not_una;
}
  where
    tag_front : (tag : List ℕ) (b : ℕ) → IsTagFront tag → length tag < 3 → IsTrue (is_capital b || is_digit b) → IsTagFront (tag ++ b ∷ [])
    tag_front [] b is short h = absurd is
    tag_front (a ∷ []) b is short h = (is, h)
    tag_front (a ∷ c ∷ []) b is short h = (is.0, is.1, h)
    tag_front (a ∷ c ∷ d ∷ others) b is short h = absurd (omega arith)

-- nothing but line ends stands where a service string may still come
fresh_parts : (advice : Option Advice) (segments : List Segment) → true ≡ is_fresh advice segments → (advice ≡ None) × (segments ≡ [])
fresh_parts None [] e = (refl, refl)
fresh_parts None (x ∷ xs) e = absurd (true≢false e)
fresh_parts (Some a) segments e = absurd (true≢false e)

only_line_ends : (text : List ℕ) (s : Service) (segments : List Segment) (advice : Option Advice) (body tail : List ℕ)
    → text ≡ (advice_text advice ++ body) ++ tail
    → Advises advice s (tags segments)
    → Each (SpellsNext s) body segments
    → LineEnds tail
    → advice ≡ None → segments ≡ [] → LineEnds text × (s ≡ usual)
only_line_ends text s [] None body tail e advises spelled ends no_advice none =
    (subst LineEnds (sym (e ∙ ap (λ (t : List ℕ). t ++ tail) spelled)) ends, advises.0)
only_line_ends text s (x ∷ xs) None body tail e advises spelled ends no_advice none = absurd cc
only_line_ends text s segments (Some a) body tail e advises spelled ends no_advice none = absurd cc

pub service_begins : (text : List ℕ) (s : Service) (segments : List Segment) (fresh : Bool) (tag : List ℕ) (b : ℕ)
    → EndsInTag text s segments fresh tag
    → fresh ≡ true
    → tag ++ b ∷ [] ≡ una_tag
    → EndsInService (text ++ b ∷ []) s segments []
service_begins text s segments fresh tag b e is_true is_una =
    let whole = e.before_ends.whole in
    let parts = fresh_parts whole.advice segments (sym is_true ∙ e.before_ends.fresh_is) in
    let alone = only_line_ends e.before s segments whole.advice whole.body whole.tail whole.text_is whole.advises
    whole.body_spells whole.tail_is parts.0 parts.1 in
    record {
      before = e.before;
      text_is = grows text e.before tag b e.text_is ∙ ap (λ (t : List ℕ). e.before ++ t) is_una;
      before_is = alone.0;
      is_cut = omega arith;
      service_is = alone.1;
      none_yet = parts.1;
    }

-- ---- in a service string

pub service_goes_on : (text : List ℕ) (s : Service) (segments : List Segment) (six : List ℕ) (b : ℕ)
    → EndsInService text s segments six
    → length six < 5
    → EndsInService (text ++ b ∷ []) s segments (six ++ b ∷ [])
service_goes_on text s segments six b e short = record {
  before = e.before;
  text_is = grows text e.before (una_tag ++ six) b e.text_is;
  before_is = e.before_is;
  is_cut = omega (arith, length_push six b);
  service_is = e.service_is;
  none_yet = e.none_yet;
}

pub service_ends : (text : List ℕ) (s : Service) (segments : List Segment) (six : List ℕ) (b : ℕ) (found : Service)
    → EndsInService text s segments six
    → service_of (six ++ b ∷ []) ≡ Some found
    → EndsOutside (text ++ b ∷ []) found segments false
service_ends text s segments six b found e right =
    subst (λ (x : List Segment). EndsOutside (text ++ b ∷ []) found x false) (sym e.none_yet) (record {
      whole = record {
        advice = Some (record { before = e.before; six = six ++ b ∷ [] });
        body = [];
        tail = [];
        text_is = grows text e.before (una_tag ++ six) b e.text_is ∙ sym (append-nil _) ∙ sym (append-nil _);
        advises = (e.before_is, right);
        body_spells = refl;
        tail_is = tt;
      };
      fresh_is = refl;
    })

-- ---- a segment is opened, or ends

whole_tag : (tag : List ℕ) → IsTagFront tag → 3 ≤ length tag → IsTag tag
whole_tag [] is long = absurd is
whole_tag (a ∷ []) is long = absurd (omega arith)
whole_tag (a ∷ b ∷ []) is long = absurd (omega arith)
whole_tag (a ∷ b ∷ c ∷ []) is long = is
whole_tag (a ∷ b ∷ c ∷ d ∷ others) is long = absurd is

-- a first tag that is no service string
advises_more : (advice : Option Advice) (s : Service) (segments : List Segment) (tag : List ℕ) (fresh : Bool)
    → fresh ≡ is_fresh advice segments
    → Advises advice s (tags segments)
    → (fresh ≡ true → tag ≢ una_tag)
    → Advises advice s (tags segments ++ tag ∷ [])
advises_more None s [] tag fresh e advises not_una = (advises.0, not_una e)
advises_more None s (x ∷ xs) tag fresh e advises not_una = advises
advises_more (Some a) s segments tag fresh e advises not_una = advises

pub segment_opens : (text : List ℕ) (s : Service) (segments : List Segment) (fresh : Bool) (tag : List ℕ) (b : ℕ)
    → EndsInTag text s segments fresh tag
    → 3 ≤ length tag
    → b ≡ s.element
    → EndsInData (text ++ b ∷ []) s segments (with_tag tag)
segment_opens text s segments fresh tag b e long is_element =
    let is = whole_tag tag e.tag_is long in
    let three = tag_length tag is in
    record {
      before = e.before;
      segment = tag ++ b ∷ [];
      text_is = grows text e.before tag b e.text_is;
      whole = e.before_ends.whole;
      no_advice =
          advises_more e.before_ends.whole.advice s segments tag fresh e.before_ends.fresh_is e.before_ends.whole.advises
          e.no_advice;
      segment_spells = record {
        closed = [];
        written = [];
        front = [];
        back = [];
        text_is = ap (λ (x : ℕ). tag ++ x ∷ []) is_element ∙ ap (λ (t : List ℕ). t ++ s.element ∷ []) (sym (append-nil tag));
        tag_is = is;
        closed_spells = refl;
        elements_are = refl;
        front_spells = refl;
        back_spells = refl;
        length_is = omega (arith, length_push tag b);
        is_short = omega (arith, length_push tag b);
      };
    }

-- a segment's text and value after whole ones
adds_segment : (before segment : List ℕ) (s : Service) (segments : List Segment) (x : Segment)
    (whole : SpellsWhole before s segments)
    → Advises whole.advice s (tags segments ++ x.tag ∷ [])
    → SpellsSegment s segment x
    → EndsOutside (before ++ segment) s (segments ++ x ∷ []) false
adds_segment before segment s segments x whole advises spelled = record {
  whole = record {
    advice = whole.advice;
    body = whole.body ++ (whole.tail ++ segment);
    tail = [];
    text_is = ap (λ (t : List ℕ). t ++ segment) whole.text_is ∙ simp (append_assoc, append-nil);
    advises = subst (Advises whole.advice s) (sym (map-append (λ (y : Segment). y.tag) segments (x ∷ []))) advises;
    body_spells =
        Each-push (SpellsNext s) whole.body segments (whole.tail ++ segment) x whole.body_spells
        (whole.tail, segment, refl, whole.tail_is, spelled);
    tail_is = tt;
  };
  fresh_is = stale whole.advice segments x;
}
  where
    stale : (advice : Option Advice) (segments : List Segment) (x : Segment) → false ≡ is_fresh advice (segments ++ x ∷ [])
    stale None [] x = refl
    stale None (y ∷ ys) x = refl
    stale (Some a) segments x = refl

pub empty_segment_ends : (text : List ℕ) (s : Service) (segments : List Segment) (fresh : Bool) (tag : List ℕ) (b : ℕ)
    → EndsInTag text s segments fresh tag
    → 3 ≤ length tag
    → b ≡ s.terminator
    → EndsOutside (text ++ b ∷ []) s (segments ++ record { tag = tag; elements = [] } ∷ []) false
empty_segment_ends text s segments fresh tag b e long is_terminator =
    let is = whole_tag tag e.tag_is long in
    let three = tag_length tag is in
    let whole = e.before_ends.whole in
    let x : Segment = record { tag = tag; elements = [] } in
    let spelled : SpellsSegment s (tag ++ b ∷ []) x = record {
      body = [];
      written = [];
      text_is = ap (λ (y : ℕ). tag ++ y ∷ []) is_terminator ∙ ap (λ (t : List ℕ). t ++ s.terminator ∷ []) (sym (append-nil tag));
      tag_is = is;
      body_spells = refl;
      elements_are = refl;
      is_short = omega (arith, length_push tag b);
    } in
    subst (λ (t : List ℕ). EndsOutside t s (segments ++ x ∷ []) false) (sym (grows text e.before tag b e.text_is))
    (adds_segment e.before (tag ++ b ∷ []) s segments x whole
    (advises_more whole.advice s segments tag fresh e.before_ends.fresh_is whole.advises e.no_advice) spelled)

-- ---- in data

-- a segment that is open grows by a byte
open_grows : (s : Service) (text : List ℕ) (o : Open) (b : ℕ)
    → SpellsOpen s text o
    → o.length ≢ segment_limit
    → (o.length + 1 ≡ length (text ++ b ∷ [])) × (length (text ++ b ∷ []) ≤ segment_limit)
open_grows s text o b e short =
    (omega (arith, length_push text b, e.length_is), omega (arith, length_push text b, e.length_is, e.is_short, short))

-- the open component grows by a spelled byte
pub open_byte : (s : Service) (text : List ℕ) (o : Open) (part : List ℕ) (b n : ℕ)
    → SpellsOpen s text o
    → SpellsByte s part b
    → n ≡ length (text ++ part)
    → length (text ++ part) ≤ segment_limit
    → SpellsOpen s (text ++ part)
    (record { tag = o.tag; elements = o.elements; element = o.element; component = o.component ++ b ∷ []; length = n })
open_byte s text o part b n e spelled len short = record {
  closed = e.closed;
  written = e.written;
  front = e.front;
  back = e.back ++ part;
  text_is = ap (λ (t : List ℕ). t ++ part) e.text_is ∙ simp append_assoc;
  tag_is = e.tag_is;
  closed_spells = e.closed_spells;
  elements_are = e.elements_are;
  front_spells = e.front_spells;
  back_spells = Each-push (SpellsByte s) e.back o.component part b e.back_spells spelled;
  length_is = len;
  is_short = short;
}

pub open_component : (s : Service) (text : List ℕ) (o : Open) (b : ℕ)
    → SpellsOpen s text o
    → b ≡ s.component
    → o.length ≢ segment_limit
    → SpellsOpen s (text ++ b ∷ []) (with_component o)
open_component s text o b e is short =
    let grown = open_grows s text o b e short in
    record {
      closed = e.closed;
      written = e.written;
      front = e.front ++ (e.back ++ b ∷ []);
      back = [];
      text_is = ap (λ (t : List ℕ). t ++ b ∷ []) e.text_is ∙ simp (append_assoc, append-nil);
      tag_is = e.tag_is;
      closed_spells = e.closed_spells;
      elements_are = e.elements_are;
      front_spells =
          Each-push (Before s.component (SpellsComponent s)) e.front o.element (e.back ++ b ∷ []) o.component e.front_spells
          (e.back, ap (λ (x : ℕ). e.back ++ x ∷ []) is, e.back_spells);
      back_spells = refl;
      length_is = grown.0;
      is_short = grown.1;
    }

-- the open element, closed
element_of : (s : Service) (text : List ℕ) (o : Open) (e : SpellsOpen s text o)
    → Behind s.element (SpellsElement s) (s.element ∷ (e.front ++ e.back)) (o.element ++ o.component ∷ [])
element_of s text o e = (
  e.front ++ e.back,
  refl,
  record {
    front = e.front;
    back = e.back;
    closed = o.element;
    last = o.component;
    text_is = refl;
    components_are = refl;
    front_spells = e.front_spells;
    back_spells = e.back_spells;
  },
)

elements_closed : (s : Service) (text : List ℕ) (o : Open) (e : SpellsOpen s text o)
    → Each (Behind s.element (SpellsElement s)) (e.closed ++ s.element ∷ (e.front ++ e.back))
    (e.written ++ (o.element ++ o.component ∷ []) ∷ [])
elements_closed s text o e =
    Each-push (Behind s.element (SpellsElement s)) e.closed e.written (s.element ∷ (e.front ++ e.back))
    (o.element ++ o.component ∷ []) e.closed_spells (element_of s text o e)

values_closed : (s : Service) (text : List ℕ) (o : Open) (e : SpellsOpen s text o)
    → closed_elements o ≡ map without_empty_end (e.written ++ (o.element ++ o.component ∷ []) ∷ [])
values_closed s text o e =
    ap (λ (x : List (List (List ℕ))). x ++ without_empty_end (o.element ++ o.component ∷ []) ∷ []) e.elements_are
    ∙ sym (map-append without_empty_end e.written ((o.element ++ o.component ∷ []) ∷ []))

pub open_element : (s : Service) (text : List ℕ) (o : Open) (b : ℕ)
    → SpellsOpen s text o
    → b ≡ s.element
    → o.length ≢ segment_limit
    → SpellsOpen s (text ++ b ∷ []) (with_element o)
open_element s text o b e is short =
    let grown = open_grows s text o b e short in
    record {
      closed = e.closed ++ s.element ∷ (e.front ++ e.back);
      written = e.written ++ (o.element ++ o.component ∷ []) ∷ [];
      front = [];
      back = [];
      text_is =
          ap (λ (t : List ℕ). t ++ b ∷ []) e.text_is
          ∙ ap (λ (x : ℕ). ((o.tag ++ e.closed) ++ s.element ∷ (e.front ++ e.back)) ++ x ∷ []) is
          ∙ simp append_assoc;
      tag_is = e.tag_is;
      closed_spells = elements_closed s text o e;
      elements_are = values_closed s text o e;
      front_spells = refl;
      back_spells = refl;
      length_is = grown.0;
      is_short = grown.1;
    }

pub open_ends : (s : Service) (text : List ℕ) (o : Open) (b : ℕ)
    → SpellsOpen s text o
    → b ≡ s.terminator
    → o.length ≢ segment_limit
    → SpellsSegment s (text ++ b ∷ []) (record { tag = o.tag; elements = without_empty_end (closed_elements o) })
open_ends s text o b e is short =
    let grown = open_grows s text o b e short in
    record {
      body = e.closed ++ s.element ∷ (e.front ++ e.back);
      written = e.written ++ (o.element ++ o.component ∷ []) ∷ [];
      text_is =
          ap (λ (t : List ℕ). t ++ b ∷ []) e.text_is
          ∙ ap (λ (x : ℕ). ((o.tag ++ e.closed) ++ s.element ∷ (e.front ++ e.back)) ++ x ∷ []) is
          ∙ simp append_assoc;
      tag_is = e.tag_is;
      body_spells = elements_closed s text o e;
      elements_are = ap without_empty_end (values_closed s text o e);
      is_short = grown.1;
    }

-- the whole text, where the open segment changes
pub data_goes_on : (text : List ℕ) (s : Service) (segments : List Segment) (o p : Open) (b : ℕ)
    (e : EndsInData text s segments o)
    → p.tag ≡ o.tag
    → SpellsOpen s (e.segment ++ b ∷ []) p
    → EndsInData (text ++ b ∷ []) s segments p
data_goes_on text s segments o p b e same spelled = record {
  before = e.before;
  segment = e.segment ++ b ∷ [];
  text_is = grows text e.before e.segment b e.text_is;
  whole = e.whole;
  no_advice = subst (λ (t : List ℕ). Advises e.whole.advice s (tags segments ++ t ∷ [])) (sym same) e.no_advice;
  segment_spells = spelled;
}

pub data_ends : (text : List ℕ) (s : Service) (segments : List Segment) (o : Open) (b : ℕ)
    → EndsInData text s segments o
    → b ≡ s.terminator
    → o.length ≢ segment_limit
    → EndsOutside (text ++ b ∷ []) s (segments ++ record { tag = o.tag; elements = without_empty_end (closed_elements o) } ∷ []) false
data_ends text s segments o b e is short =
    let x : Segment = record { tag = o.tag; elements = without_empty_end (closed_elements o) } in
    subst (λ (t : List ℕ). EndsOutside t s (segments ++ x ∷ []) false) (sym (grows text e.before e.segment b e.text_is))
    (adds_segment e.before (e.segment ++ b ∷ []) s segments x e.whole e.no_advice (open_ends s e.segment o b e.segment_spells is short))

pub data_byte : (text : List ℕ) (s : Service) (segments : List Segment) (o : Open) (b : ℕ)
    → EndsInData text s segments o
    → o.length ≢ segment_limit
    → IsTrue (is_data b)
    → IsTrue (not (is_special s b))
    → EndsInData (text ++ b ∷ []) s segments (with_byte o b)
data_byte text s segments o b e short is_data plain =
    let grown = open_grows s e.segment o b e.segment_spells short in
    data_goes_on text s segments o (with_byte o b) b e refl
    (open_byte s e.segment o (b ∷ []) b (o.length + 1) e.segment_spells (is_data, inl (refl, plain)) grown.0 grown.1)

pub release_comes : (text : List ℕ) (s : Service) (segments : List Segment) (o : Open) (b : ℕ)
    → EndsInData text s segments o
    → o.length ≢ segment_limit
    → s.release ≡ Some b
    → EndsReleased (text ++ b ∷ []) s segments (with_release o)
release_comes text s segments o b e short is = record {
  front = text;
  release = b;
  data_before = o;
  text_is = refl;
  front_ends = e;
  release_is = is;
  open_is = refl;
  is_short = omega (arith, e.segment_spells.length_is, e.segment_spells.is_short, short);
}

pub released_byte : (text : List ℕ) (s : Service) (segments : List Segment) (o : Open) (b : ℕ)
    → EndsReleased text s segments o
    → o.length ≢ segment_limit
    → IsTrue (is_data b)
    → EndsInData (text ++ b ∷ []) s segments (with_byte o b)
released_byte text s segments o b e short is_data =
    let f = e.front_ends in
    let part : List ℕ = e.release ∷ b ∷ [] in
    let before = e.data_before in
    let longer : length (f.segment ++ part) ≡ length f.segment + 2 = length-append f.segment part in
    let same_length : o.length ≡ before.length + 1 = ap (λ (x : Open). x.length) e.open_is in
    let spelled : SpellsOpen s (f.segment ++ part) (with_byte (with_release before) b) =
    open_byte s f.segment before part b (before.length + 1 + 1) f.segment_spells
    (is_data, inr (e.release, e.release_is, refl)) (omega (arith, longer, f.segment_spells.length_is))
    (omega (arith, longer, f.segment_spells.length_is, same_length, short, e.is_short)) in
    let whole : EndsInData (text ++ b ∷ []) s segments (with_byte (with_release before) b) = record {
      before = f.before;
      segment = f.segment ++ part;
      text_is = ap (λ (t : List ℕ). t ++ b ∷ []) (e.text_is ∙ ap (λ (t : List ℕ). t ++ e.release ∷ []) f.text_is) ∙ simp append_assoc;
      whole = f.whole;
      no_advice = f.no_advice;
      segment_spells = spelled;
    } in
    subst (λ (x : Open). EndsInData (text ++ b ∷ []) s segments (with_byte x b)) (sym e.open_is) whole

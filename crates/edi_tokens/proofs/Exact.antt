-- The laws of the token grammar: what is spelled is read, what is shown is the fault, and the canonical text
-- spells its segments again.
use Rattle.std.proofs.Common.{false, ◌≡◌, ◌≢◌, ℕ, zero, suc, ◌+◌, ◌<◌, Bool, cond, eqb, ltb, List, [], ◌∷◌, ◌++◌, length}
use Rattle.std.proofs.Common.{take, Some, Result, Ok, Err, refl, sym, ap, subst, ◌∙◌, arith, inl, inr}
use Rattle.std.specs.Prelude.{◌⊎◌, ◌↔◌, IfOk, IfErr}
use Rattle.std.proofs.lemmas.List.{take_all, take_at, length-append}
use Rattle.std.proofs.lemmas.Bool.{cases_Bool, eqb-true, eqb-false, le-ltb, lt-ltb, cases_order, ne_eqb}
use Rattle.edi_segments.specs.declared.segment.Service.{Service}
use Rattle.edi_segments.specs.declared.segment.Segment.{Segment}
use Rattle.edi_segments.specs.declared.segment.Tokens.{Tokens}
use Rattle.edi_segments.specs.declared.fault.TokenFault.{TokenFault}
use Rattle.edi_segments.specs.declared.fault.TokenFault.TheVariants.{TooLong, ServiceString, Byte, Cut, Tag, LongSegment, Read, Memory}
use Rattle.edi_segments.specs.Spelling.{text_limit, Spells}
use Rattle.edi_segments.specs.Reading.{BytePlace, Outside, InService, InTag, InData, Released, Reading, start, step, run, ◌>>=◌}
use Rattle.edi_segments.specs.Reading.{finish, finish_at, tokens_of, GivesFault, GivesValue}
use Rattle.edi_tokens.specs.Fault.{EndsIn, shown_at, shown_by_end, ByteShows, EndShows, Shows, is_fresh}
use Rattle.edi_tokens.proofs.Steps.{shown_is, fault_of}
use Rattle.edi_tokens.proofs.Sound.{SpellsOrShows, is_read}
use Rattle.edi_tokens.proofs.Whole.{whole_runs, front_runs}

-- ---- what is spelled is read, and what is shown is the fault

pub spelled_is_read : (bytes : List ℕ) (s : Service) (segments : List Segment)
    → Spells bytes s segments
    → tokens_of bytes ≡ Ok (record { service = s; segments = segments })
spelled_is_read bytes s segments e =
    let all : take text_limit bytes ≡ bytes = take_all text_limit bytes e.is_short in
    let runs : run start (take text_limit bytes)
    ≡ Ok (record { service = s; segments = segments; place = Outside (is_fresh e.whole.advice segments) }) =
    ap (run start) all ∙ (whole_runs bytes s segments e.whole).is in
    ap (λ (x : Result Reading TokenFault). x >>= λ r. cond (ltb text_limit (length bytes)) (Err TooLong) (finish r)) runs
    ∙ rw (le-ltb text_limit (length bytes) e.is_short) refl

-- a run that stops at a byte stops there whatever follows
run_stops : (front rest : List ℕ) (r m : Reading) (b : ℕ) (fault : TokenFault)
    → run r front ≡ Ok m
    → step m b ≡ Err fault
    → run r (front ++ b ∷ rest) ≡ Err fault
run_stops [] rest r m b fault e stops =
    let same : r ≡ m = cc in ap (λ (x : Reading). step x b >>= λ next. run next rest) same ∙ rw stops refl
run_stops (a ∷ front) rest r m b fault e stops =
    through (step r a) e (λ (next : Reading) (h : run next front ≡ Ok m). run_stops front rest next m b fault h stops)
  where
    through : (x : Result Reading TokenFault)
        → (x >>= λ next. run next front) ≡ Ok m
        → ((next : Reading) → run next front ≡ Ok m → run next (front ++ b ∷ rest) ≡ Err fault)
        → (x >>= λ next. run next (front ++ b ∷ rest)) ≡ Err fault
    through (Ok next) h others = others next h
    through (Err f) h others = absurd cc

fault_is : (x : Result Reading TokenFault) (fault : TokenFault) → fault_of x ≡ Some fault → x ≡ Err fault
fault_is (Ok n) fault e = absurd cc
fault_is (Err f) fault e = let same : f ≡ fault = cc in ap (λ (y : TokenFault). Err y) same

pub front_at : (front : List ℕ) (r : Reading) → EndsIn front r → run start front ≡ Ok r
front_at front r e = (front_runs front r.service r.segments r.place e).is

-- a byte that shows a fault within the longest text is not read
pub stops_at : (bytes : List ℕ) (fault : TokenFault) (e : ByteShows bytes fault)
    → length e.front < text_limit
    → step e.reading e.byte ≡ Err fault
stops_at bytes fault e short =
    let early : eqb (length e.front) text_limit ≡ false = ne_eqb (length e.front) text_limit (λ same. absurd (omega arith)) in
    let shows : shown_at e.reading.service e.reading.place e.byte ≡ Some fault =
    sym (ap (λ (t : Bool). cond t (Some TooLong) (shown_at e.reading.service e.reading.place e.byte)) early) ∙ e.shows in
    fault_is (step e.reading e.byte) fault (sym (shown_is e.front e.reading e.reading.place e.byte e.front_ends) ∙ shows)

-- a text that is cut behind a front and one byte more begins with these
pub cut_behind : (front : List ℕ) (b : ℕ) (rest : List ℕ) (n : ℕ) → length front < n
    → (more : List ℕ) × (take n (front ++ b ∷ rest) ≡ front ++ b ∷ more)
cut_behind [] b rest zero short = absurd (omega arith)
cut_behind [] b rest (suc n) short = (take n rest, refl)
cut_behind (a ∷ front) b rest zero short = absurd (omega arith)
cut_behind (a ∷ front) b rest (suc n) short =
    let others = cut_behind front b rest n (omega arith) in (others.0, ap (λ (t : List ℕ). a ∷ t) others.1)

shown_at_byte : (bytes : List ℕ) (fault : TokenFault) → ByteShows bytes fault → tokens_of bytes ≡ Err fault
shown_at_byte bytes fault e =
    let whole : length bytes ≡ length e.front + length (e.byte ∷ e.rest) = ap length e.text_is ∙ length-append e.front (e.byte ∷ e.rest) in
    elim (cases_Bool (eqb (length e.front) text_limit)) [
      | inl full ↦
          let n : length e.front ≡ text_limit = eqb-true _ _ full in
          let front_is : take text_limit bytes ≡ e.front =
          ap (take text_limit) e.text_is ∙ take_at e.front (e.byte ∷ e.rest) text_limit n in
          let late : Some TooLong ≡ Some fault =
          sym (ap (λ (t : Bool). cond t (Some TooLong) (shown_at e.reading.service e.reading.place e.byte)) full) ∙ e.shows in
          let same : TooLong ≡ fault = cc in
          let runs : run start (take text_limit bytes) ≡ Ok e.reading = ap (run start) front_is ∙ front_at e.front e.reading e.front_ends in
          ap (λ (x : Result Reading TokenFault). x >>= λ r. cond (ltb text_limit (length bytes)) (Err TooLong) (finish r))
          runs
          ∙ rw (lt-ltb text_limit (length bytes) (omega (arith, whole, n))) (ap (λ (y : TokenFault). Err y) same)
      | inr early ↦
          let short : length e.front < text_limit = omega (arith, eqb-false _ _ early, e.is_first) in
          let stops : step e.reading e.byte ≡ Err fault = stops_at bytes fault e short in
          let parts = cut_behind e.front (e.byte) e.rest text_limit short in
          let runs : run start (take text_limit bytes) ≡ Err fault =
          ap (λ (t : List ℕ). run start (take text_limit t)) e.text_is
          ∙ ap (run start) parts.1
          ∙ run_stops e.front parts.0 start e.reading e.byte fault (front_at e.front e.reading e.front_ends) stops in
          ap (λ (x : Result Reading TokenFault). x >>= λ r. cond (ltb text_limit (length bytes)) (Err TooLong) (finish r)) runs
    ]

shown_at_end : (bytes : List ℕ) (fault : TokenFault) → EndShows bytes fault → tokens_of bytes ≡ Err fault
shown_at_end bytes fault e =
    let all : take text_limit bytes ≡ bytes = take_all text_limit bytes e.is_short in
    let runs : run start (take text_limit bytes) ≡ Ok e.reading = ap (run start) all ∙ front_at bytes e.reading e.text_ends in
    ap (λ (x : Result Reading TokenFault). x >>= λ r. cond (ltb text_limit (length bytes)) (Err TooLong) (finish r)) runs
    ∙ rw (le-ltb text_limit (length bytes) e.is_short) (at_end e.reading e.reading.place e.shows)
  where
    at_end : (r : Reading) (place : BytePlace) → shown_by_end place ≡ Some fault → finish_at r place ≡ Err fault
    at_end r (Outside fresh) h = absurd cc
    at_end r (InService six) h = let same : ServiceString ≡ fault = cc in ap (λ (y : TokenFault). Err y) same
    at_end r (InTag fresh tag) h = let same : Cut ≡ fault = cc in ap (λ (y : TokenFault). Err y) same
    at_end r (InData o) h = let same : Cut ≡ fault = cc in ap (λ (y : TokenFault). Err y) same
    at_end r (Released o) h = let same : Cut ≡ fault = cc in ap (λ (y : TokenFault). Err y) same

pub shown_is_fault : (bytes : List ℕ) (fault : TokenFault) → Shows bytes fault → tokens_of bytes ≡ Err fault
shown_is_fault bytes fault (inl e) = shown_at_byte bytes fault e
shown_is_fault bytes fault (inr e) = shown_at_end bytes fault e

abbrev read_as : Tokens → Result Tokens TokenFault
read_as tokens = Ok tokens

abbrev refused_as : TokenFault → Result Tokens TokenFault
refused_as fault = Err fault

tokens_are : (x y : Tokens) → read_as x ≡ read_as y → x ≡ y
tokens_are x y e = cc

-- a text spells at most one list, with one set of service characters
pub spells_once : (bytes : List ℕ) (s t : Service) (xs ys : List Segment) → Spells bytes s xs → Spells bytes t ys → (s ≡ t) × (xs ≡ ys)
spells_once bytes s t xs ys e f =
    let same = tokens_are (record { service = s; segments = xs }) (record { service = t; segments = ys })
    (sym (spelled_is_read bytes s xs e) ∙ spelled_is_read bytes t ys f) in
    (ap (λ (x : Tokens). x.service) same, ap (λ (x : Tokens). x.segments) same)

-- a text that spells a list shows no fault
pub spelled_shows_none : (bytes : List ℕ) (s : Service) (xs : List Segment) (fault : TokenFault) → Spells bytes s xs → Shows bytes fault → ⊥
spelled_shows_none bytes s xs fault e f =
    let clash : read_as (record { service = s; segments = xs }) ≡ refused_as fault =
    sym (spelled_is_read bytes s xs e) ∙ shown_is_fault bytes fault f in
    cc

-- and it shows at most one
pub shows_once : (bytes : List ℕ) (f g : TokenFault) → Shows bytes f → Shows bytes g → f ≡ g
shows_once bytes f g e h = let same : refused_as f ≡ refused_as g = sym (shown_is_fault bytes f e) ∙ shown_is_fault bytes g h in cc

read_or_shown : (bytes : List ℕ) (x : Result Tokens TokenFault)
    → SpellsOrShows bytes x
    → ((s : Service) × (xs : List Segment) × Spells bytes s xs) ⊎ ((fault : TokenFault) × Shows bytes fault)
read_or_shown bytes (Ok tokens) e = inl (tokens.service, tokens.segments, e)
read_or_shown bytes (Err fault) e = inr (fault, e)

pub spells_or_shows : (bytes : List ℕ)
    → ((s : Service) × (xs : List Segment) × Spells bytes s xs) ⊎ ((fault : TokenFault) × Shows bytes fault)
spells_or_shows bytes = read_or_shown bytes (tokens_of bytes) (is_read bytes)

pub spelled_iff_read : (bytes : List ℕ) (s : Service) (xs : List Segment)
    → Spells bytes s xs ↔ (tokens_of bytes ≡ Ok (record { service = s; segments = xs }))
spelled_iff_read bytes s xs = (spelled_is_read bytes s xs, λ e. subst (SpellsOrShows bytes) e (is_read bytes))

pub shown_iff_fault : (bytes : List ℕ) (fault : TokenFault) → Shows bytes fault ↔ (tokens_of bytes ≡ Err fault)
shown_iff_fault bytes fault = (shown_is_fault bytes fault, λ e. subst (SpellsOrShows bytes) e (is_read bytes))

-- ---- what a call answered that answers what reading gives

pub is_spelled : (bytes : List ℕ) (r : Result Tokens TokenFault)
    → GivesValue (λ tokens. tokens) r (tokens_of bytes)
    → IfOk r (λ tokens. Spells bytes tokens.service tokens.segments)
is_spelled bytes (Ok tokens) e = subst (SpellsOrShows bytes) e (is_read bytes)
is_spelled bytes (Err fault) e = tt

failed_as : (fault : TokenFault) (given : Result Tokens TokenFault) → fault ≢ Memory → GivesFault fault given → given ≡ Err fault
failed_as TooLong given other e = e
failed_as ServiceString given other e = e
failed_as Byte given other e = e
failed_as Cut given other e = e
failed_as Tag given other e = e
failed_as LongSegment given other e = e
failed_as Read given other e = e
failed_as Memory given other e = absurd (other refl)

pub is_shown : (bytes : List ℕ) (r : Result Tokens TokenFault)
    → GivesValue (λ tokens. tokens) r (tokens_of bytes)
    → IfErr r (λ fault. fault ≢ Memory → Shows bytes fault)
is_shown bytes (Ok tokens) e = tt
is_shown bytes (Err fault) e = λ other. subst (SpellsOrShows bytes) (failed_as fault (tokens_of bytes) other e) (is_read bytes)

-- ---- the byte that shows the fault is one

-- of two fronts of one text the longer begins with the shorter and the byte after it
longer_front : (f g r q : List ℕ) (a b : ℕ) → f ++ a ∷ r ≡ g ++ b ∷ q → length f < length g → (more : List ℕ) × (g ≡ f ++ a ∷ more)
longer_front [] [] r q a b e lt = absurd (omega arith)
longer_front [] (y ∷ g) r q a b e lt = let same : a ≡ y = cc in (g, ap (λ (x : ℕ). x ∷ g) (sym same))
longer_front (x ∷ f) [] r q a b e lt = absurd (omega arith)
longer_front (x ∷ f) (y ∷ g) r q a b e lt =
    let same : x ≡ y = cc in
    let rest : f ++ a ∷ r ≡ g ++ b ∷ q = cc in
    let others = longer_front f g r q a b rest (omega arith) in
    (others.0, ap (λ (z : ℕ). z ∷ g) (sym same) ∙ ap (λ (t : List ℕ). x ∷ t) others.1)

-- where one byte shows a fault, no later byte stands after a valid front
not_later : (bytes : List ℕ) (fault other : TokenFault) (e : ByteShows bytes fault) (h : ByteShows bytes other)
    → length e.front < length h.front
    → ⊥
not_later bytes fault other e h lt =
    let stops : step e.reading e.byte ≡ Err fault = stops_at bytes fault e (omega (arith, h.is_first)) in
    let longer = longer_front e.front h.front e.rest h.rest e.byte h.byte (sym e.text_is ∙ h.text_is) lt in
    let stopped : run start h.front ≡ Err fault =
    ap (run start) longer.1
    ∙ run_stops e.front longer.0 start e.reading e.byte fault (front_at e.front e.reading e.front_ends) stops in
    let goes : run start h.front ≡ Ok h.reading = front_at h.front h.reading h.front_ends in
    cc

pub shows_at_one_byte : (bytes : List ℕ) (fault other : TokenFault) (e : ByteShows bytes fault) (h : ByteShows bytes other)
    → length e.front ≡ length h.front
shows_at_one_byte bytes fault other e h =
    elim (cases_order (length e.front) (length h.front)) [
      | inl same ↦ same
      | inr (inl lt) ↦ absurd (not_later bytes fault other e h lt)
      | inr (inr gt) ↦ absurd (not_later bytes other fault h e gt)
    ]

-- where the end of a text shows a fault, none of its bytes does
pub end_shows_alone : (bytes : List ℕ) (fault other : TokenFault) → EndShows bytes fault → ByteShows bytes other → ⊥
end_shows_alone bytes fault other e h =
    let whole : length bytes ≡ length h.front + length (h.byte ∷ h.rest) = ap length h.text_is ∙ length-append h.front (h.byte ∷ h.rest) in
    let stops : step h.reading h.byte ≡ Err other = stops_at bytes other h (omega (arith, whole, e.is_short)) in
    let stopped : run start bytes ≡ Err other =
    ap (run start) h.text_is
    ∙ run_stops h.front h.rest start h.reading h.byte other (front_at h.front h.reading h.front_ends) stops in
    let goes : run start bytes ≡ Ok e.reading = front_at bytes e.reading e.text_ends in
    cc

-- What a run of bytes reaches is a valid front of the text, and a byte at which it stops shows the fault.
use Rattle.std.proofs.Common.{◌≡◌, ◌≢◌, ℕ, ◌<◌, ◌≤◌, Bool, true, false, cond, eqb, ltb, List, [], ◌∷◌, ◌++◌, length, Option}
use Rattle.std.proofs.Common.{Some, None, Result, Ok, Err, refl, sym, ap, subst, ◌∙◌, append_assoc, append-nil, arith, inl}
use Rattle.std.proofs.Common.{inr}
use Rattle.std.specs.Prelude.{IsTrue, ◌&&◌, ◌||◌, not, ◌⊎◌}
use Rattle.std.proofs.lemmas.Bool.{cases_Bool, cases_lt, true≢false, false≢true, eqb-true, eqb-false, ltb-true, ltb-false}
use Rattle.std.proofs.lemmas.Bool.{lt-ltb, le-ltb, eq-eqb, ne_eqb, and_parts}
use Rattle.std.specs.Prelude.{is_none}
use Rattle.edi_segments.specs.declared.segment.Service.{Service}
use Rattle.edi_segments.specs.declared.fault.TokenFault.{TokenFault}
use Rattle.edi_segments.specs.declared.fault.TokenFault.TheVariants.{ServiceString, Byte, Tag, LongSegment}
use Rattle.edi_segments.specs.Characters.{is_data, is_special, is_release, is_capital, is_digit, is_line_end}
use Rattle.edi_segments.specs.Service.{una_tag, service_of}
use Rattle.edi_segments.specs.Spelling.{segment_limit}
use Rattle.edi_segments.specs.Reading.{Open, BytePlace, Outside, InService, InTag, InData, Released, Reading, is_una, step}
use Rattle.edi_segments.specs.Reading.{step_at, step_outside, step_service, adopt, step_tag, step_data, step_released, within}
use Rattle.edi_segments.specs.Reading.{run, ◌>>=◌, at, tag_or_service, with_component, with_element}
use Rattle.edi_tokens.specs.Fault.{EndsAt, EndsIn, shown_at, EndsOutside, EndsInService, EndsInTag, EndsInData, EndsReleased}
use Rattle.edi_tokens.proofs.Fronts.{line_end_after, tag_begins, tag_goes_on, service_begins, service_goes_on, service_ends}
use Rattle.edi_tokens.proofs.Fronts.{segment_opens, empty_segment_ends, data_goes_on, data_ends, data_byte, release_comes}
use Rattle.edi_tokens.proofs.Fronts.{released_byte, open_component, open_element}

-- the way that a test went
pub chosen : {A : Type 0} (b : Bool) (x y z : A) → cond b x y ≡ z → ((b ≡ true) × (x ≡ z)) ⊎ ((b ≡ false) × (y ≡ z))
chosen true x y z e = inl (refl, e)
chosen false x y z e = inr (refl, e)

-- a step that did not fail, and where it leads
abbrev LeadsOn : List ℕ → Result Reading TokenFault → Type 0
LeadsOn text (Ok next) = EndsIn text next
LeadsOn text (Err fault) = Unit {0}

at_test : (b : Bool) (x y : Result Reading TokenFault) (text : List ℕ)
    → (b ≡ true → LeadsOn text x)
    → (b ≡ false → LeadsOn text y)
    → LeadsOn text (cond b x y)
at_test true x y text f g = f refl
at_test false x y text f g = g refl

outside_leads : (text : List ℕ) (r : Reading) (fresh : Bool) (b : ℕ)
    → EndsOutside text r.service r.segments fresh
    → LeadsOn (text ++ b ∷ []) (step_outside r fresh b)
outside_leads text r fresh b e =
    at_test (is_line_end b) _ _ (text ++ b ∷ []) (λ h. line_end_after text r.service r.segments fresh b e h) (λ _.
    at_test (is_capital b) _ _ (text ++ b ∷ []) (λ h. tag_begins text r.service r.segments fresh b e h) (λ _. tt))

service_leads : (text : List ℕ) (r : Reading) (six : List ℕ) (b : ℕ)
    → EndsInService text r.service r.segments six
    → LeadsOn (text ++ b ∷ []) (step_service r six b)
service_leads text r six b e =
    at_test (ltb (length six) 5) _ _ (text ++ b ∷ [])
    (λ h. service_goes_on text r.service r.segments six b e (ltb-true _ _ h))
    (λ _. adopted (service_of (six ++ b ∷ [])) refl)
  where
    adopted : (found : Option Service) → service_of (six ++ b ∷ []) ≡ found → LeadsOn (text ++ b ∷ []) (adopt r found)
    adopted None h = tt
    adopted (Some found) h = service_ends text r.service r.segments six b found e h

pub is_una_true : (tag : List ℕ) → is_una tag ≡ true → tag ≡ una_tag
is_una_true [] e = absurd (false≢true e)
is_una_true (a ∷ []) e = absurd (false≢true e)
is_una_true (a ∷ b ∷ []) e = absurd (false≢true e)
is_una_true (a ∷ b ∷ c ∷ []) e =
    let p = and_parts (eqb a 85 && eqb b 78) (eqb c 65) e in
    let q = and_parts (eqb a 85) (eqb b 78) p.0 in
    let x : a ≡ 85 = eqb-true _ _ q.0 in
    let y : b ≡ 78 = eqb-true _ _ q.1 in
    let z : c ≡ 65 = eqb-true _ _ p.1 in
    cc
is_una_true (a ∷ b ∷ c ∷ d ∷ others) e = absurd (false≢true e)

is_una_false : (tag : List ℕ) → is_una tag ≡ false → tag ≢ una_tag
is_una_false tag e same = true≢false (sym (ap is_una same) ∙ e)

tag_leads : (text : List ℕ) (r : Reading) (fresh : Bool) (tag : List ℕ) (b : ℕ)
    → EndsInTag text r.service r.segments fresh tag
    → LeadsOn (text ++ b ∷ []) (step_tag r fresh tag b)
tag_leads text r fresh tag b e =
    at_test (ltb (length tag) 3) _ _ (text ++ b ∷ [])
    (λ short. at_test (is_capital b || is_digit b) _ _ (text ++ b ∷ []) (λ h. grown (ltb-true _ _ short) h) (λ _. tt))
    (λ long. at_test (eqb b r.service.element) _ _ (text ++ b ∷ [])
    (λ h. segment_opens text r.service r.segments fresh tag b e (ltb-false _ _ long) (eqb-true _ _ h)) (λ _.
    at_test (eqb b r.service.terminator) _ _ (text ++ b ∷ [])
    (λ h. empty_segment_ends text r.service r.segments fresh tag b e (ltb-false _ _ long) (eqb-true _ _ h)) (λ _. tt)))
  where
    grown : length tag < 3 → IsTrue (is_capital b || is_digit b) → EndsIn (text ++ b ∷ []) (at r (tag_or_service r fresh (tag ++ b ∷ [])))
    grown short h =
        elim (cases_Bool (fresh && is_una (tag ++ b ∷ []))) [
          | inl una ↦ let p = and_parts fresh (is_una (tag ++ b ∷ [])) una in
              subst (λ (t : Bool).
              EndsAt (text ++ b ∷ []) r.service r.segments (cond t (InService []) (InTag fresh (tag ++ b ∷ [])))) (sym una)
              (service_begins text r.service r.segments fresh tag b e p.0 (is_una_true _ p.1))
          | inr other ↦ subst
              (λ (t : Bool). EndsAt (text ++ b ∷ []) r.service r.segments (cond t (InService []) (InTag fresh (tag ++ b ∷ []))))
              (sym other)
              (tag_goes_on text r.service r.segments fresh tag b e short h (λ is_fresh.
              is_una_false (tag ++ b ∷ []) (subst (λ (t : Bool). (t && is_una (tag ++ b ∷ [])) ≡ false) is_fresh other)))
        ]

data_leads : (text : List ℕ) (r : Reading) (o : Open) (b : ℕ)
    → EndsInData text r.service r.segments o
    → LeadsOn (text ++ b ∷ []) (within o (step_data r o b))
data_leads text r o b e =
    let s = r.service in
    let text' : List ℕ = text ++ b ∷ [] in
    at_test (eqb o.length segment_limit) _ _ text' (λ _. tt) (λ not_full.
    let short : o.length ≢ segment_limit = eqb-false _ _ not_full in
    at_test (is_special s b) _ _ text'
    (λ special. at_test (eqb b s.component) _ _ text'
    (λ h. data_goes_on text s r.segments o (with_component o) b e refl
    (open_component s e.segment o b e.segment_spells (eqb-true _ _ h) short)) (λ not_component.
    at_test (eqb b s.element) _ _ text'
    (λ h. data_goes_on text s r.segments o (with_element o) b e refl
    (open_element s e.segment o b e.segment_spells (eqb-true _ _ h) short)) (λ not_element.
    at_test (eqb b s.terminator) _ _ text' (λ h. data_ends text s r.segments o b e (eqb-true _ _ h) short) (λ not_terminator.
    release_comes text s r.segments o b e short
    (release_is s.release b (last_of _ _ _ _ special not_component not_element not_terminator))))))
    (λ plain. at_test (is_data b) _ _ text' (λ h. data_byte text s r.segments o b e short h (ap not plain)) (λ _. tt)))
  where
    release_is : (release : Option ℕ) (b : ℕ) → is_release release b ≡ true → release ≡ Some b
    release_is None b h = absurd (false≢true h)
    release_is (Some x) b h = ap (λ (y : ℕ). Some y) (sym (eqb-true _ _ h))

    last_of : (w x y z : Bool) → (((w || x) || y) || z) ≡ true → w ≡ false → x ≡ false → y ≡ false → z ≡ true
    last_of true x y z h e f g = absurd (true≢false e)
    last_of false true y z h e f g = absurd (true≢false f)
    last_of false false true z h e f g = absurd (true≢false g)
    last_of false false false z h e f g = h

released_leads : (text : List ℕ) (r : Reading) (o : Open) (b : ℕ)
    → EndsReleased text r.service r.segments o
    → LeadsOn (text ++ b ∷ []) (within o (step_released r o b))
released_leads text r o b e =
    at_test (eqb o.length segment_limit) _ _ (text ++ b ∷ []) (λ _. tt) (λ not_full.
    at_test (is_data b) _ _ (text ++ b ∷ []) (λ h. released_byte text r.service r.segments o b e (eqb-false _ _ not_full) h) (λ _. tt))

step_leads : (text : List ℕ) (r : Reading) (place : BytePlace) (b : ℕ)
    → EndsAt text r.service r.segments place
    → LeadsOn (text ++ b ∷ []) (step_at r place b)
step_leads text r (Outside fresh) b e = outside_leads text r fresh b e
step_leads text r (InService six) b e = service_leads text r six b e
step_leads text r (InTag fresh tag) b e = tag_leads text r fresh tag b e
step_leads text r (InData o) b e = data_leads text r o b e
step_leads text r (Released o) b e = released_leads text r o b e

-- ---- the fault of a step

abbrev pub fault_of : {A : Type 0} → Result A TokenFault → Option TokenFault
fault_of (Ok x) = None
fault_of (Err fault) = Some fault

two_tests : (x y : Bool) (p q : Reading) → cond (x || y) None (Some Tag) ≡ fault_of (cond x (Ok p) (cond y (Ok q) (Err Tag)))
two_tests true y p q = refl
two_tests false true p q = refl
two_tests false false p q = refl

tag_tests : (short x y z : Bool) (p q u : Reading)
    → cond (cond short x (y || z)) None (Some Tag)
    ≡ fault_of (cond short (cond x (Ok p) (Err Tag)) (cond y (Ok q) (cond z (Ok u) (Err Tag))))
tag_tests true true y z p q u = refl
tag_tests true false y z p q u = refl
tag_tests false x true z p q u = refl
tag_tests false x false true p q u = refl
tag_tests false x false false p q u = refl

data_tests : (special x y z known : Bool) (p q u v w : Reading)
    → cond (special || known) None (Some Byte)
    ≡ fault_of (cond special (cond x (Ok p) (cond y (Ok q) (cond z (Ok u) (Ok v)))) (cond known (Ok w) (Err Byte)))
data_tests true true y z known p q u v w = refl
data_tests true false true z known p q u v w = refl
data_tests true false false true known p q u v w = refl
data_tests true false false false known p q u v w = refl
data_tests false x y z true p q u v w = refl
data_tests false x y z false p q u v w = refl

full_test : (full : Bool) (x : Option TokenFault) (next : Result Reading TokenFault)
    → x ≡ fault_of next
    → cond full (Some LongSegment) x ≡ fault_of (cond full (Err LongSegment) next)
full_test true x next e = refl
full_test false x next e = e

known_test : (known : Bool) (p : Reading) → cond known None (Some Byte) ≡ fault_of (cond known (Ok p) (Err Byte))
known_test true p = refl
known_test false p = refl

service_tests : (n : ℕ) (found : Option Service) (r p : Reading)
    → n ≤ 5
    → cond (eqb n 5 && is_none found) (Some ServiceString) None ≡ fault_of (cond (ltb n 5) (Ok p) (adopt r found))
service_tests n found r p le =
    elim (cases_lt n 5) [
      | inl lt ↦ rw (lt-ltb n 5 lt, ne_eqb n 5 (λ e. absurd (omega arith))) refl
      | inr ge ↦ rw (le-ltb n 5 ge, eq-eqb n 5 (omega arith)) (adopted found)
    ]
  where
    adopted : (found : Option Service) → cond (is_none found) (Some ServiceString) None ≡ fault_of (adopt r found)
    adopted None = refl
    adopted (Some x) = refl

-- what the next byte shows is the fault of its step
pub shown_is : (text : List ℕ) (r : Reading) (place : BytePlace) (b : ℕ)
    → EndsAt text r.service r.segments place
    → shown_at r.service place b ≡ fault_of (step_at r place b)
shown_is text r (Outside fresh) b e = two_tests (is_line_end b) (is_capital b) _ _
shown_is text r (InService six) b e = service_tests (length six) (service_of (six ++ b ∷ [])) r _ e.is_cut
shown_is text r (InTag fresh tag) b e =
    tag_tests (ltb (length tag) 3) (is_capital b || is_digit b) (eqb b r.service.element) (eqb b r.service.terminator) _ _ _
shown_is text r (InData o) b e =
    full_test (eqb o.length segment_limit) _ _
    (data_tests (is_special r.service b) (eqb b r.service.component) (eqb b r.service.element) (eqb b r.service.terminator)
    (is_data b) _ _ _ _ _)
shown_is text r (Released o) b e = full_test (eqb o.length segment_limit) _ _ (known_test (is_data b) _)

-- ---- a run

-- after a valid front of the text a byte shows the fault
pub record StopsAtByte (text : List ℕ) (fault : TokenFault) : Type 0 where
  pub front : List ℕ
  pub byte : ℕ
  pub rest : List ℕ
  pub reading : Reading
  pub text_is : text ≡ front ++ byte ∷ rest
  pub front_ends : EndsIn front reading
  pub shows : shown_at reading.service reading.place byte ≡ Some fault

abbrev pub Runs : List ℕ → Result Reading TokenFault → Type 0
Runs text (Ok r) = EndsIn text r
Runs text (Err fault) = StopsAtByte text fault

pub run_leads : (front bytes : List ℕ) (r : Reading) → EndsIn front r → Runs (front ++ bytes) (run r bytes)
run_leads front [] r e = subst (λ (t : List ℕ). EndsIn t r) (sym (append-nil front)) e
run_leads front (b ∷ bytes) r e =
    go (step r b) refl (step_leads front r r.place b e)
    (λ (next : Reading) (ends : EndsIn (front ++ b ∷ []) next). run_leads (front ++ b ∷ []) bytes next ends)
  where
    go : (x : Result Reading TokenFault)
        → step r b ≡ x
        → LeadsOn (front ++ b ∷ []) x
        → ((next : Reading) → EndsIn (front ++ b ∷ []) next → Runs ((front ++ b ∷ []) ++ bytes) (run next bytes))
        → Runs (front ++ b ∷ bytes) (x >>= λ next. run next bytes)
    go (Ok next) h leads others = subst (λ (t : List ℕ). Runs t (run next bytes)) (append_assoc front (b ∷ []) bytes) (others next leads)
    go (Err fault) h leads others =
        record {
          front = front;
          byte = b;
          rest = bytes;
          reading = r;
          text_is = refl;
          front_ends = e;
          shows = shown_is front r r.place b e ∙ ap fault_of h;
        }

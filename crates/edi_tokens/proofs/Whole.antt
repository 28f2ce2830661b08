-- Each valid front of a text is run through, and its run ends where the front does.
use Rattle.std.proofs.Common.{◌≡◌, ◌≢◌, ℕ, suc, ◌+◌, ◌<◌, ◌≤◌, Bool, true, false, cond, eqb, ltb, leb, List, [], ◌∷◌, ◌++◌}
use Rattle.std.proofs.Common.{length, map, Option, Some, None, Result, Ok, Err, refl, sym, ap, subst, ◌∙◌, append_assoc}
use Rattle.std.proofs.Common.{append-nil, add-one, arith, inl, inr}
use Rattle.std.specs.Prelude.{IsTrue, ◌&&◌, ◌||◌, not, ◌⊎◌}
use Rattle.std.proofs.lemmas.List.{length-append}
use Rattle.std.proofs.lemmas.Bool.{false≢true, eqb-false, ne_eqb, eq-eqb, lt-ltb, le-ltb, leb-true, not-true, and_parts}
use Rattle.std.proofs.lemmas.Bool.{and_right, or_left, or_right, false_from_ne_true}
use Rattle.edi_segments.specs.declared.segment.Service.{Service}
use Rattle.edi_segments.specs.declared.segment.Segment.{Segment}
use Rattle.edi_segments.specs.declared.fault.TokenFault.{TokenFault}
use Rattle.edi_segments.specs.Characters.{is_data, is_special, is_release, is_capital, is_digit, is_line_end}
use Rattle.edi_segments.specs.Service.{usual, una_tag, service_of, differs, is_mark, is_decimal, are_right}
use Rattle.edi_segments.specs.Spelling.{segment_limit, Each, Behind, Before, SpellsByte, SpellsComponent, SpellsElement}
use Rattle.edi_segments.specs.Spelling.{SpellsSegment, SpellsNext, SpellsWhole, LineEnds, IsTag, IsNoAdvice, tags, Advice}
use Rattle.edi_segments.specs.Spelling.{Advises, advice_text, without_empty_end}
use Rattle.edi_segments.specs.Reading.{Open, BytePlace, Outside, InService, InTag, InData, Released, Reading, start, is_una}
use Rattle.edi_segments.specs.Reading.{adopt, step, run, ◌>>=◌}
use Rattle.edi_tokens.specs.Fault.{is_fresh, EndsAt, IsTagFront, SpellsOpen, EndsInData, EndsReleased}
use Rattle.edi_tokens.proofs.Parts.{tag_length}
use Rattle.edi_tokens.proofs.Steps.{is_una_true}

-- ---- service characters are apart

pub record CharactersApart (s : Service) : Type 0 where
  pub element_component : eqb s.element s.component ≡ false
  pub terminator_component : eqb s.terminator s.component ≡ false
  pub terminator_element : eqb s.terminator s.element ≡ false
  pub release_apart : (r : ℕ) → s.release ≡ Some r → (eqb r s.component ≡ false) × (eqb r s.element ≡ false) × (eqb r s.terminator ≡ false)

usual_apart : CharactersApart usual
usual_apart = record {
  element_component = refl;
  terminator_component = refl;
  terminator_element = refl;
  release_apart =
      λ r e. let same : 63 ≡ r = cc in
      subst (λ (x : ℕ). (eqb x 58 ≡ false) × (eqb x 43 ≡ false) × (eqb x 39 ≡ false)) same (refl, refl, refl);
}

swap_differs : (a b : ℕ) → eqb a b ≡ false → eqb b a ≡ false
swap_differs a b e = ne_eqb b a (λ same. absurd (eqb-false a b e (sym same)))

made_from : (right : Bool) (x s : Service) → cond right (Some x) None ≡ Some s → (right ≡ true) × (x ≡ s)
made_from true x s e = (refl, cc)
made_from false x s e = absurd cc

released_by : (blank : Bool) (r x : ℕ) → cond blank None (Some r) ≡ Some x → r ≡ x
released_by true r x e = absurd cc
released_by false r x e = cc

service_apart : (six : List ℕ) (s : Service) → service_of six ≡ Some s → CharactersApart s
service_apart (c ∷ e ∷ d ∷ r ∷ reserved ∷ t ∷ []) s h =
    let made = made_from (are_right c e d r reserved t) _ s h in
    let halves = and_parts ((is_mark c && is_mark e) && (is_mark t && (eqb r 32 || is_mark r))) _ made.0 in
    let rest = and_parts (is_decimal d && (leb 32 reserved && leb reserved 126)) _ halves.1 in
    let parts = and_parts (differs c (e ∷ t ∷ r ∷ d ∷ []) && differs e (t ∷ r ∷ d ∷ [])) _ rest.1 in
    let ce = and_parts (differs c (e ∷ t ∷ r ∷ d ∷ [])) _ parts.0 in
    let tr = and_parts (differs t (r ∷ d ∷ [])) _ parts.1 in
    let c1 = and_parts (not (eqb c e)) _ ce.0 in
    let c2 = and_parts (not (eqb c t)) _ c1.1 in
    let c3 = and_parts (not (eqb c r)) _ c2.1 in
    let e1 = and_parts (not (eqb e t)) _ ce.1 in
    let e2 = and_parts (not (eqb e r)) _ e1.1 in
    let t1 = and_parts (not (eqb t r)) _ tr.0 in
    let here : CharactersApart
    (record { component = c; element = e; decimal = d; release = cond (eqb r 32) None (Some r); terminator = t }) = record {
      element_component = swap_differs c e (not-true _ c1.0);
      terminator_component = swap_differs c t (not-true _ c2.0);
      terminator_element = swap_differs e t (not-true _ e1.0);
      release_apart = λ x is. let same = released_by (eqb r 32) r x is in
          subst (λ (y : ℕ). (eqb y c ≡ false) × (eqb y e ≡ false) × (eqb y t ≡ false)) same
          (swap_differs c r (not-true _ c3.0), swap_differs e r (not-true _ e2.0), swap_differs t r (not-true _ t1.0));
    } in
    subst CharactersApart made.1 here
service_apart _ s h = absurd cc

pub advised_apart : (advice : Option Advice) (s : Service) (tags : List (List ℕ)) → Advises advice s tags → CharactersApart s
advised_apart None s tags advises = subst CharactersApart (sym advises.0) usual_apart
advised_apart (Some a) s tags advises = service_apart a.six s advises.1

-- ---- runs one after another

-- bytes that lead from one reading to another
pub record RunsTo (r : Reading) (bytes : List ℕ) (n : Reading) : Type 0 where
  pub is : run r bytes ≡ Ok n

pub run_then : {r m n : Reading} {xs ys : List ℕ} → RunsTo r xs m → RunsTo m ys n → RunsTo r (xs ++ ys) n
run_then {r} {m} {n} {xs} {ys} first second = record { is = joined xs ys r m n first.is second.is }
  where
    through : (xs ys : List ℕ) (m n : Reading) (x : Result Reading TokenFault) → (x >>= λ next. run next xs) ≡ Ok m
        → ((next : Reading) → run next xs ≡ Ok m → run next (xs ++ ys) ≡ Ok n) → (x >>= λ next. run next (xs ++ ys)) ≡ Ok n
    through xs ys m n (Ok next) e others = others next e
    through xs ys m n (Err fault) e others = absurd cc

    joined : (xs ys : List ℕ) (r m n : Reading) → run r xs ≡ Ok m → run m ys ≡ Ok n → run r (xs ++ ys) ≡ Ok n
    joined [] ys r m n first second = let same : r ≡ m = cc in subst (λ (x : Reading). run x ys ≡ Ok n) (sym same) second
    joined (b ∷ xs) ys r m n first second =
        through xs ys m n (step r b) first (λ (next : Reading) (e : run next xs ≡ Ok m). joined xs ys next m n e second)

-- the same bytes, spelled in another way, and the same place
pub goes_as : {r n : Reading} {xs : List ℕ} (ys : List ℕ) (m : Reading) → RunsTo r xs n → ys ≡ xs → n ≡ m → RunsTo r ys m
goes_as {r} {n} {xs} ys m goes same place =
    subst (λ (t : List ℕ). RunsTo r t m) (sym same) (subst (λ (x : Reading). RunsTo r xs x) place goes)

one_step : (r : Reading) (b : ℕ) (n : Reading) → step r b ≡ Ok n → RunsTo r (b ∷ []) n
one_step r b n e = record { is = rw e refl }

abbrev pub outside : Service → List Segment → Bool → Reading
outside s segments fresh = record { service = s; segments = segments; place = Outside fresh }

abbrev pub in_tag : Service → List Segment → Bool → List ℕ → Reading
in_tag s segments fresh tag = record { service = s; segments = segments; place = InTag fresh tag }

abbrev pub open_of : List ℕ → List (List (List ℕ)) → List (List ℕ) → List ℕ → ℕ → Open
open_of tag elements element component n = record { tag = tag; elements = elements; element = element; component = component; length = n }

abbrev pub in_data : Service → List Segment → List ℕ → List (List (List ℕ)) → List (List ℕ) → List ℕ → ℕ → Reading
in_data s segments tag elements element component n =
    record { service = s; segments = segments; place = InData (open_of tag elements element component n) }

abbrev pub released : Service → List Segment → List ℕ → List (List (List ℕ)) → List (List ℕ) → List ℕ → ℕ → Reading
released s segments tag elements element component n =
    record { service = s; segments = segments; place = Released (open_of tag elements element component n) }

-- ---- line ends and tags

pub line_ends_run : (text : List ℕ) (s : Service) (segments : List Segment) (fresh : Bool) → LineEnds text
    → RunsTo (outside s segments fresh) text (outside s segments fresh)
line_ends_run [] s segments fresh ends = record { is = refl }
line_ends_run (b ∷ text) s segments fresh ends = record { is = rw ends.0 (line_ends_run text s segments fresh ends.1).is }

no_line_end : (b : ℕ) → is_capital b ≡ true → is_line_end b ≡ false
no_line_end b h =
    let p = and_parts (leb 65 b) (leb b 90) h in
    let big : 65 ≤ b = leb-true _ _ p.0 in
    rw (ne_eqb b 13 (λ e. absurd (omega arith)), ne_eqb b 10 (λ e. absurd (omega arith))) refl

first_tag_byte : (a : ℕ) (s : Service) (segments : List Segment) (fresh : Bool) → is_capital a ≡ true
    → RunsTo (outside s segments fresh) (a ∷ []) (in_tag s segments fresh (a ∷ []))
first_tag_byte a s segments fresh h = one_step _ a _ (rw (no_line_end a h, h) refl)

next_tag_byte : (tag : List ℕ) (b : ℕ) (s : Service) (segments : List Segment) (fresh : Bool) → length tag < 3
    → (is_capital b || is_digit b) ≡ true → (fresh && is_una (tag ++ b ∷ [])) ≡ false
    → RunsTo (in_tag s segments fresh tag) (b ∷ []) (in_tag s segments fresh (tag ++ b ∷ []))
next_tag_byte tag b s segments fresh short h other = one_step _ b _ (rw (lt-ltb _ _ short, h, other) refl)

una_false : (fresh : Bool) (tag : List ℕ) → (fresh ≡ true → tag ≢ una_tag) → (fresh && is_una tag) ≡ false
una_false false tag h = refl
una_false true tag h = false_from_ne_true (is_una tag) (λ e. h refl (is_una_true tag e))

pub tag_front_runs : (tag : List ℕ) (s : Service) (segments : List Segment) (fresh : Bool) → IsTagFront tag
    → (fresh ≡ true → tag ≢ una_tag) → RunsTo (outside s segments fresh) tag (in_tag s segments fresh tag)
tag_front_runs [] s segments fresh is not_una = absurd is
tag_front_runs (a ∷ []) s segments fresh is not_una = first_tag_byte a s segments fresh is
tag_front_runs (a ∷ b ∷ []) s segments fresh is not_una =
    run_then (first_tag_byte a s segments fresh is.0)
    (next_tag_byte (a ∷ []) b s segments fresh (omega arith) is.1 (una_false fresh (a ∷ b ∷ []) not_una))
tag_front_runs (a ∷ b ∷ c ∷ []) s segments fresh is not_una =
    run_then (first_tag_byte a s segments fresh is.0)
    (run_then (next_tag_byte (a ∷ []) b s segments fresh (omega arith) is.1 (and_right fresh false refl))
    (next_tag_byte (a ∷ b ∷ []) c s segments fresh (omega arith) is.2 (una_false fresh (a ∷ b ∷ c ∷ []) not_una)))
tag_front_runs (a ∷ b ∷ c ∷ d ∷ others) s segments fresh is not_una = absurd is

-- ---- data

not_full : (n : ℕ) → n < segment_limit → eqb n segment_limit ≡ false
not_full n h = ne_eqb n segment_limit (λ e. absurd (omega arith))

special_by : (s : Service) (b : ℕ)
    → ((eqb b s.component ≡ true) ⊎ ((eqb b s.element ≡ true) ⊎ ((eqb b s.terminator ≡ true) ⊎ (is_release s.release b ≡ true))))
    → is_special s b ≡ true
special_by s b (inl h) =
    or_left (eqb b s.component || eqb b s.element || eqb b s.terminator) _
    (or_left (eqb b s.component || eqb b s.element) _ (or_left (eqb b s.component) _ h))
special_by s b (inr (inl h)) =
    or_left (eqb b s.component || eqb b s.element || eqb b s.terminator) _
    (or_left (eqb b s.component || eqb b s.element) _ (or_right (eqb b s.component) _ h))
special_by s b (inr (inr (inl h))) =
    or_left (eqb b s.component || eqb b s.element || eqb b s.terminator) _ (or_right (eqb b s.component || eqb b s.element) _ h)
special_by s b (inr (inr (inr h))) = or_right (eqb b s.component || eqb b s.element || eqb b s.terminator) _ h

same_number : (n : ℕ) → eqb n n ≡ true
same_number n = eq-eqb n n refl

module _ (s : Service) (segments : List Segment) (tag : List ℕ) (elements : List (List (List ℕ))) where
  plain_step : (element : List (List ℕ)) (component : List ℕ) (n b : ℕ) → n < segment_limit → is_special s b ≡ false → is_data b ≡ true
      → RunsTo (in_data s segments tag elements element component n) (b ∷ [])
      (in_data s segments tag elements element (component ++ b ∷ []) (n + 1))
  plain_step element component n b short plain known = one_step _ b _ (rw (not_full n short, plain, known) refl)

  pub release_step : (element : List (List ℕ)) (component : List ℕ) (n b : ℕ) → CharactersApart s → n < segment_limit → s.release ≡ Some b
      → RunsTo (in_data s segments tag elements element component n) (b ∷ []) (released s segments tag elements element component (n + 1))
  release_step element component n b apart short is =
      let parts = apart.release_apart b is in
      let special : is_special s b ≡ true =
      special_by s b (inr (inr (inr (subst (λ (x : Option ℕ). is_release x b ≡ true) (sym is) (same_number b))))) in
      one_step _ b _ (rw (not_full n short, special, parts.0, parts.1, parts.2) refl)

  released_step : (element : List (List ℕ)) (component : List ℕ) (n b : ℕ) → n < segment_limit → is_data b ≡ true
      → RunsTo (released s segments tag elements element component n) (b ∷ [])
      (in_data s segments tag elements element (component ++ b ∷ []) (n + 1))
  released_step element component n b short known = one_step _ b _ (rw (not_full n short, known) refl)

  component_step : (element : List (List ℕ)) (component : List ℕ) (n : ℕ) → n < segment_limit
      → RunsTo (in_data s segments tag elements element component n) (s.component ∷ [])
      (in_data s segments tag elements (element ++ component ∷ []) [] (n + 1))
  component_step element component n short =
      let special : is_special s s.component ≡ true = special_by s s.component (inl (same_number s.component)) in
      one_step _ s.component _ (rw (not_full n short, special, same_number s.component) refl)

  -- a byte as it is spelled
  byte_runs : (element : List (List ℕ)) (component part : List ℕ) (n b : ℕ) → CharactersApart s → SpellsByte s part b
      → n + length part ≤ segment_limit
      → RunsTo (in_data s segments tag elements element component n) part
      (in_data s segments tag elements element (component ++ b ∷ []) (n + length part))
  byte_runs element component part n b apart spelled fits = go spelled.1
    where
      go : (((part ≡ b ∷ []) × IsTrue (not (is_special s b))) ⊎ ((r : ℕ) × (s.release ≡ Some r) × (part ≡ r ∷ b ∷ [])))
          → RunsTo (in_data s segments tag elements element component n) part
          (in_data s segments tag elements element (component ++ b ∷ []) (n + length part))
      go (inl plain) =
          let one : length part ≡ 1 = ap length plain.0 in
          let sum : n + 1 ≡ n + length part = omega (arith, one) in
          goes_as part _ (plain_step element component n b (omega (arith, one, fits)) (not-true _ plain.1) spelled.0)
          plain.0 (ap (λ (k : ℕ). in_data s segments tag elements element (component ++ b ∷ []) k) sum)
      go (inr behind) =
          let two : length part ≡ 2 = ap length behind.2 in
          let sum : n + 1 + 1 ≡ n + length part = omega (arith, two) in
          let first = release_step element component n behind.0 apart (omega (arith, two, fits)) behind.1 in
          let second = released_step element component (n + 1) b (omega (arith, two, fits)) spelled.0 in
          goes_as part _ (run_then first second) behind.2
          (ap (λ (k : ℕ). in_data s segments tag elements element (component ++ b ∷ []) k) sum)

  pub component_runs : (element : List (List ℕ)) (component text more : List ℕ) (n : ℕ) → CharactersApart s → SpellsComponent s text more
      → n + length text ≤ segment_limit
      → RunsTo (in_data s segments tag elements element component n) text
      (in_data s segments tag elements element (component ++ more) (n + length text))
  component_runs element component text [] n apart spelled fits =
      let none : length text ≡ 0 = ap length spelled in
      let sum : n ≡ n + length text = omega (arith, none) in
      goes_as {xs = []} text _ (record { is = refl }) spelled
      (ap (λ (c : List ℕ). in_data s segments tag elements element c n) (sym (append-nil component))
      ∙ ap (λ (k : ℕ). in_data s segments tag elements element (component ++ []) k) sum)
  component_runs element component text (b ∷ more) n apart spelled fits =
      let first = spelled.0 in
      let rest = spelled.1 in
      let joined : length text ≡ length first + length rest = ap length spelled.2 ∙ length-append first rest in
      let one = byte_runs element component first n b apart spelled.3 (omega (arith, joined, fits)) in
      let others = component_runs element (component ++ b ∷ []) rest more (n + length first) apart spelled.4
      (omega (arith, joined, fits)) in
      let sum : (n + length first) + length rest ≡ n + length text = omega (arith, joined) in
      goes_as text _ (run_then one others) spelled.2
      (ap (λ (k : ℕ). in_data s segments tag elements element ((component ++ b ∷ []) ++ more) k) sum
      ∙ ap (λ (c : List ℕ). in_data s segments tag elements element c (n + length text))
      (append_assoc component (b ∷ []) more))

  -- closed components
  pub components_run : (element closed : List (List ℕ)) (text : List ℕ) (n : ℕ) → CharactersApart s
      → Each (Before s.component (SpellsComponent s)) text closed → n + length text ≤ segment_limit
      → RunsTo (in_data s segments tag elements element [] n) text
      (in_data s segments tag elements (element ++ closed) [] (n + length text))
  components_run element [] text n apart spelled fits =
      let none : length text ≡ 0 = ap length spelled in
      let sum : n ≡ n + length text = omega (arith, none) in
      goes_as {xs = []} text _ (record { is = refl }) spelled
      (ap (λ (c : List (List ℕ)). in_data s segments tag elements c [] n) (sym (append-nil element))
      ∙ ap (λ (k : ℕ). in_data s segments tag elements (element ++ []) [] k) sum)
  components_run element (c ∷ closed) text n apart spelled fits =
      let first = spelled.0 in
      let rest = spelled.1 in
      let front = spelled.3.0 in
      let joined : length text ≡ length first + length rest = ap length spelled.2 ∙ length-append first rest in
      let one_more : length first ≡ length front + 1 = ap length spelled.3.1 ∙ length-append front (s.component ∷ []) in
      let bytes = component_runs element [] front c n apart spelled.3.2 (omega (arith, joined, one_more, fits)) in
      let separator = component_step element c (n + length front) (omega (arith, joined, one_more, fits)) in
      let closes = goes_as first _ (run_then bytes separator) spelled.3.1 refl in
      let others = components_run (element ++ c ∷ []) closed rest ((n + length front) + 1) apart spelled.4
      (omega (arith, joined, one_more, fits)) in
      let sum : ((n + length front) + 1) + length rest ≡ n + length text = omega (arith, joined, one_more) in
      goes_as text _ (run_then closes others) spelled.2
      (ap (λ (k : ℕ). in_data s segments tag elements ((element ++ c ∷ []) ++ closed) [] k) sum
      ∙ ap (λ (x : List (List ℕ)). in_data s segments tag elements x [] (n + length text))
      (append_assoc element (c ∷ []) closed))

-- ---- elements

-- a place where an element separator or the terminator may come, with the elements that are closed then
pub record Ready (r : Reading) (s : Service) (segments : List Segment) (tag : List ℕ) (elements : List (List (List ℕ)))
    (n : ℕ) : Type 0 where
  pub opens : n < segment_limit → RunsTo r (s.element ∷ []) (in_data s segments tag elements [] [] (n + 1))
  pub ends : n < segment_limit
      → RunsTo r (s.terminator ∷ []) (outside s (segments ++ record { tag = tag; elements = without_empty_end elements } ∷ []) false)

pub tag_is_ready : (s : Service) (segments : List Segment) (fresh : Bool) (tag : List ℕ) → CharactersApart s → IsTag tag
    → Ready (in_tag s segments fresh tag) s segments tag [] 3
tag_is_ready s segments fresh tag apart is =
    let three = tag_length tag is in
    let long : ltb (length tag) 3 ≡ false = le-ltb _ _ (omega arith) in
    record {
      opens = λ _. one_step _ s.element _ (rw (long, same_number s.element) refl);
      ends = λ _. one_step _ s.terminator _ (rw (long, apart.terminator_element, same_number s.terminator) refl);
    }

data_is_ready : (s : Service) (segments : List Segment) (tag : List ℕ) (elements : List (List (List ℕ)))
    (element : List (List ℕ)) (component : List ℕ) (n : ℕ)
    → CharactersApart s
    → Ready (in_data s segments tag elements element component n) s segments tag
    (elements ++ without_empty_end (element ++ component ∷ []) ∷ []) n
data_is_ready s segments tag elements element component n apart =
    let special_element : is_special s s.element ≡ true = special_by s s.element (inr (inl (same_number s.element))) in
    let special_terminator : is_special s s.terminator ≡ true = special_by s s.terminator (inr (inr (inl (same_number s.terminator)))) in
    record {
      opens = λ short. one_step _ s.element _ (rw (not_full n short, special_element, apart.element_component, same_number s.element) refl);
      ends =
          λ short. one_step _ s.terminator _ (rw (
            not_full n short,
            special_terminator,
            apart.terminator_component,
            apart.terminator_element,
            same_number s.terminator,
          ) refl);
    }

-- elements that were run through
pub record Reached (r : Reading) (s : Service) (segments : List Segment) (tag : List ℕ) (text : List ℕ)
    (elements : List (List (List ℕ))) (n : ℕ) : Type 0 where
  pub reading : Reading
  pub goes : RunsTo r text reading
  pub ready : Ready reading s segments tag elements n

element_runs : (s : Service) (segments : List Segment) (tag : List ℕ) (elements : List (List (List ℕ)))
    (components : List (List ℕ)) (text : List ℕ) (n : ℕ)
    → CharactersApart s
    → SpellsElement s text components
    → n + length text ≤ segment_limit
    → Reached (in_data s segments tag elements [] [] n) s segments tag text (elements ++ without_empty_end components ∷ [])
    (n + length text)
element_runs s segments tag elements components text n apart e fits =
    let joined : length text ≡ length e.front + length e.back = ap length e.text_is ∙ length-append e.front e.back in
    let sum : (n + length e.front) + length e.back ≡ n + length text = omega (arith, joined) in
    let fronts = components_run s segments tag elements [] e.closed e.front n apart e.front_spells (omega (arith, joined, fits)) in
    let backs = component_runs s segments tag elements e.closed [] e.back e.last (n + length e.front) apart e.back_spells
    (omega (arith, joined, fits)) in
    let there = in_data s segments tag elements e.closed e.last (n + length text) in
    record {
      reading = there;
      goes = goes_as text there (run_then fronts backs) e.text_is (ap (λ (k : ℕ). in_data s segments tag elements e.closed e.last k) sum);
      ready =
          subst (λ (c : List (List ℕ)). Ready there s segments tag (elements ++ without_empty_end c ∷ []) (n + length text))
          (sym e.components_are) (data_is_ready s segments tag elements e.closed e.last (n + length text) apart);
    }

pub elements_run :
    (s : Service) (segments : List Segment) (tag : List ℕ) (written elements : List (List (List ℕ))) (text : List ℕ) (n : ℕ)
    (r : Reading)
    → CharactersApart s → Ready r s segments tag elements n → Each (Behind s.element (SpellsElement s)) text written
    → n + length text ≤ segment_limit
    → Reached r s segments tag text (elements ++ map without_empty_end written) (n + length text)
elements_run s segments tag [] elements text n r apart ready spelled fits =
    let none : length text ≡ 0 = ap length spelled in
    let sum : n ≡ n + length text = omega (arith, none) in
    record {
      reading = r;
      goes = goes_as {xs = []} text r (record { is = refl }) spelled refl;
      ready =
          subst (λ (x : List (List (List ℕ))). Ready r s segments tag x (n + length text)) (sym (append-nil elements))
          (subst (λ (k : ℕ). Ready r s segments tag elements k) sum ready);
    }
elements_run s segments tag (w ∷ written) elements text n r apart ready spelled fits =
    let first = spelled.0 in
    let rest = spelled.1 in
    let inner = spelled.3.0 in
    let joined : length text ≡ length first + length rest = ap length spelled.2 ∙ length-append first rest in
    let one_more : length first ≡ length inner + 1 = ap length spelled.3.1 ∙ sym (add-one (length inner)) in
    let opens = ready.opens (omega (arith, joined, one_more, fits)) in
    let here = element_runs s segments tag elements w inner (n + 1) apart spelled.3.2 (omega (arith, joined, one_more, fits)) in
    let others = elements_run s segments tag written (elements ++ without_empty_end w ∷ []) rest ((n + 1) + length inner)
    here.reading apart here.ready spelled.4 (omega (arith, joined, one_more, fits)) in
    let sum : ((n + 1) + length inner) + length rest ≡ n + length text = omega (arith, joined, one_more) in
    let begins = goes_as {xs = s.element ∷ [] ++ inner} first here.reading (run_then opens here.goes) spelled.3.1 refl in
    record {
      reading = others.reading;
      goes = goes_as text others.reading (run_then begins others.goes) spelled.2 refl;
      ready = subst (λ (k : ℕ). Ready others.reading s segments tag (elements ++ map without_empty_end (w ∷ written)) k) sum
          (subst
          (λ (x : List (List (List ℕ))). Ready others.reading s segments tag x (((n + 1) + length inner) + length rest))
          (append_assoc elements (without_empty_end w ∷ []) (map without_empty_end written)) others.ready);
    }

-- ---- segments

tag_front : (tag : List ℕ) → IsTag tag → IsTagFront tag
tag_front [] is = absurd is
tag_front (a ∷ []) is = absurd is
tag_front (a ∷ b ∷ []) is = absurd is
tag_front (a ∷ b ∷ c ∷ []) is = is
tag_front (a ∷ b ∷ c ∷ d ∷ others) is = absurd is

segment_runs : (s : Service) (segments : List Segment) (fresh : Bool) (text : List ℕ) (x : Segment) → CharactersApart s
    → SpellsSegment s text x
    → (fresh ≡ true → x.tag ≢ una_tag) → RunsTo (outside s segments fresh) text (outside s (segments ++ x ∷ []) false)
segment_runs s segments fresh text x apart e not_una =
    let three = tag_length x.tag e.tag_is in
    let joined : length text ≡ 3 + length e.body + 1 =
    ap length e.text_is
    ∙ length-append (x.tag ++ e.body) (s.terminator ∷ [])
    ∙ ap (λ (k : ℕ). k + 1) (length-append x.tag e.body ∙ ap (λ (k : ℕ). k + length e.body) three) in
    let tag_part = tag_front_runs x.tag s segments fresh (tag_front x.tag e.tag_is) not_una in
    let body_part = elements_run s segments x.tag e.written [] e.body 3 (in_tag s segments fresh x.tag) apart
    (tag_is_ready s segments fresh x.tag apart e.tag_is) e.body_spells
    (omega (arith, joined, e.is_short)) in
    let end_part = body_part.ready.ends (omega (arith, joined, e.is_short)) in
    goes_as text _ (run_then (run_then tag_part body_part.goes) end_part) e.text_is
    (ap (λ (y : List (List (List ℕ))). outside s (segments ++ record { tag = x.tag; elements = y } ∷ []) false) (sym e.elements_are))

abbrev still : Bool → List Segment → Bool
still fresh [] = fresh
still fresh (x ∷ xs) = false

segments_run : (s : Service) (before segments : List Segment) (fresh : Bool) (text : List ℕ) → CharactersApart s
    → Each (SpellsNext s) text segments → (fresh ≡ true → IsNoAdvice (tags segments))
    → RunsTo (outside s before fresh) text (outside s (before ++ segments) (still fresh segments))
segments_run s before [] fresh text apart spelled not_una =
    goes_as {xs = []} text _ (record { is = refl }) spelled (ap (λ (x : List Segment). outside s x fresh) (sym (append-nil before)))
segments_run s before (x ∷ segments) fresh text apart spelled not_una =
    let first = spelled.0 in
    let rest = spelled.1 in
    let next = spelled.3 in
    let ends_part = line_ends_run next.0 s before fresh next.3 in
    let segment_part = segment_runs s before fresh next.1 x apart next.4 not_una in
    let one = goes_as first _ (run_then ends_part segment_part) next.2 refl in
    let others = segments_run s (before ++ x ∷ []) segments false rest apart spelled.4 (λ e. absurd (false≢true e)) in
    goes_as text _ (run_then one others) spelled.2
    (ap (λ (y : Bool). outside s ((before ++ x ∷ []) ++ segments) y) (stays segments)
    ∙ ap (λ (y : List Segment). outside s y false) (append_assoc before (x ∷ []) segments))
  where
    stays : (segments : List Segment) → still false segments ≡ false
    stays [] = refl
    stays (x ∷ xs) = refl

-- ---- a service string

abbrev in_service : List ℕ → Reading
in_service six = record { service = usual; segments = []; place = InService six }

six_go_on : (six more : List ℕ) → length six + length more ≤ 5 → RunsTo (in_service six) more (in_service (six ++ more))
six_go_on six [] short = goes_as {xs = []} [] _ (record { is = refl }) refl (ap in_service (sym (append-nil six)))
six_go_on six (b ∷ more) short =
    let one : RunsTo (in_service six) (b ∷ []) (in_service (six ++ b ∷ [])) =
    one_step _ b _ (rw (lt-ltb (length six) 5 (omega arith)) refl) in
    let others = six_go_on (six ++ b ∷ []) more (omega (arith, length-append six (b ∷ []))) in
    goes_as {xs = b ∷ [] ++ more} (b ∷ more) _ (run_then one others) refl (ap in_service (append_assoc six (b ∷ []) more))

una_runs : RunsTo (outside usual [] true) una_tag (in_service [])
una_runs = record { is = refl }

six_end : (six : List ℕ) (s : Service) → service_of six ≡ Some s → RunsTo (in_service []) six (outside s [] false)
six_end (c ∷ e ∷ d ∷ r ∷ reserved ∷ t ∷ []) s h =
    let five = six_go_on [] (c ∷ e ∷ d ∷ r ∷ reserved ∷ []) (omega arith) in
    let last : RunsTo (in_service (c ∷ e ∷ d ∷ r ∷ reserved ∷ [])) (t ∷ []) (outside s [] false) =
    one_step _ t _ (ap (λ (o : Option Service). adopt (in_service (c ∷ e ∷ d ∷ r ∷ reserved ∷ [])) o) h) in
    run_then five last
six_end _ s h = absurd cc

advice_runs : (a : Advice) (s : Service) → LineEnds a.before → service_of a.six ≡ Some s
    → RunsTo start (a.before ++ (una_tag ++ a.six)) (outside s [] false)
advice_runs a s ends right = run_then (line_ends_run a.before usual [] true ends) (run_then una_runs (six_end a.six s right))

-- ---- whole segments, and valid fronts

fresh_first : (advice : Option Advice) (segments : List Segment) → Bool
fresh_first advice segments = is_fresh advice segments

pub whole_runs : (text : List ℕ) (s : Service) (segments : List Segment) (e : SpellsWhole text s segments)
    → RunsTo start text (outside s segments (is_fresh e.advice segments))
whole_runs text s segments e = go e.advice e.text_is e.advises
  where
    body_from : (fresh : Bool) (front : List ℕ) (advice : Option Advice) → CharactersApart s → RunsTo start front (outside s [] fresh)
        → (fresh ≡ true → IsNoAdvice (tags segments)) → still fresh segments ≡ is_fresh advice segments
        → text ≡ (front ++ e.body) ++ e.tail
        → RunsTo start text (outside s segments (is_fresh advice segments))
    body_from fresh front advice apart begins not_una same text_is =
        let bodies = segments_run s [] segments fresh e.body apart e.body_spells not_una in
        let tails = line_ends_run e.tail s segments (still fresh segments) e.tail_is in
        goes_as text _ (run_then (run_then begins bodies) tails) text_is (ap (outside s segments) same)

    first_still : (segments : List Segment) → still true segments ≡ is_fresh None segments
    first_still [] = refl
    first_still (x ∷ xs) = refl

    later_still : (a : Advice) (segments : List Segment) → still false segments ≡ is_fresh (Some a) segments
    later_still a [] = refl
    later_still a (x ∷ xs) = refl

    go : (advice : Option Advice) → text ≡ (advice_text advice ++ e.body) ++ e.tail → Advises advice s (tags segments)
        → RunsTo start text (outside s segments (is_fresh advice segments))
    go None text_is advises =
        let begins : RunsTo start [] (outside s [] true) =
        goes_as {xs = []} [] _ (record { is = refl }) refl (ap (λ (x : Service). outside x [] true) (sym advises.0)) in
        body_from true [] None (advised_apart None s (tags segments) advises) begins (λ _. advises.1) (first_still segments) text_is
    go (Some a) text_is advises =
        body_from false (advice_text (Some a)) (Some a) (advised_apart (Some a) s (tags segments) advises)
        (advice_runs a s advises.0 advises.1) (λ x. absurd (false≢true x)) (later_still a segments) text_is

-- the first tag, where it is the open one
opens_no_advice : (advice : Option Advice) (s : Service) (segments : List Segment) (tag : List ℕ)
    → Advises advice s (tags segments ++ tag ∷ []) → is_fresh advice segments ≡ true → tag ≢ una_tag
opens_no_advice None s [] tag advises fresh = advises.1
opens_no_advice None s (x ∷ xs) tag advises fresh = absurd (false≢true fresh)
opens_no_advice (Some a) s segments tag advises fresh = absurd (false≢true fresh)

open_runs : (s : Service) (segments : List Segment) (fresh : Bool) (text : List ℕ) (o : Open) → CharactersApart s
    → (fresh ≡ true → o.tag ≢ una_tag) → SpellsOpen s text o
    → RunsTo (outside s segments fresh) text (record { service = s; segments = segments; place = InData o })
open_runs s segments fresh text o apart not_una e =
    let three = tag_length o.tag e.tag_is in
    let inner : List ℕ = e.front ++ e.back in
    let inner_sum : length inner ≡ length e.front + length e.back = length-append e.front e.back in
    let joined : length text ≡ (3 + length e.closed) + suc (length inner) =
    ap length e.text_is
    ∙ length-append (o.tag ++ e.closed) (s.element ∷ inner)
    ∙ ap (λ (k : ℕ). k + suc (length inner)) (length-append o.tag e.closed ∙ ap (λ (k : ℕ). k + length e.closed) three) in
    let tag_part = tag_front_runs o.tag s segments fresh (tag_front o.tag e.tag_is) not_una in
    let closed_part = elements_run s segments o.tag e.written [] e.closed 3 (in_tag s segments fresh o.tag) apart
    (tag_is_ready s segments fresh o.tag apart e.tag_is) e.closed_spells
    (omega (arith, joined, e.is_short)) in
    let opens = closed_part.ready.opens (omega (arith, joined, e.is_short)) in
    let n : ℕ = (3 + length e.closed) + 1 in
    let fronts = components_run s segments o.tag (map without_empty_end e.written) [] o.element e.front n apart
    e.front_spells (omega (arith, joined, inner_sum, e.is_short)) in
    let backs = component_runs s segments o.tag (map without_empty_end e.written) o.element [] e.back o.component
    (n + length e.front) apart e.back_spells (omega (arith, joined, inner_sum, e.is_short)) in
    let sum : (n + length e.front) + length e.back ≡ o.length = omega (arith, joined, inner_sum, e.length_is) in
    let regrouped : text ≡ (o.tag ++ e.closed) ++ (s.element ∷ [] ++ inner) = e.text_is in
    goes_as text (record { service = s; segments = segments; place = InData o })
    (run_then (run_then tag_part closed_part.goes) (run_then opens (run_then fronts backs))) regrouped
    (ap (λ (k : ℕ). in_data s segments o.tag (map without_empty_end e.written) o.element o.component k) sum
    ∙ ap (λ (x : List (List (List ℕ))). in_data s segments o.tag x o.element o.component o.length) (sym e.elements_are))

data_runs : (text : List ℕ) (s : Service) (segments : List Segment) (o : Open) → EndsInData text s segments o
    → RunsTo start text (record { service = s; segments = segments; place = InData o })
data_runs text s segments o e =
    let apart = advised_apart e.whole.advice s (tags segments ++ o.tag ∷ []) e.no_advice in
    let before = whole_runs e.before s segments e.whole in
    let open_part = open_runs s segments (is_fresh e.whole.advice segments) e.segment o apart
    (opens_no_advice e.whole.advice s segments o.tag e.no_advice) e.segment_spells in
    goes_as text _ (run_then before open_part) e.text_is refl

released_runs : (text : List ℕ) (s : Service) (segments : List Segment) (o : Open) → EndsReleased text s segments o
    → RunsTo start text (record { service = s; segments = segments; place = Released o })
released_runs text s segments o e =
    let f = e.front_ends in
    let d = e.data_before in
    let apart = advised_apart f.whole.advice s (tags segments ++ d.tag ∷ []) f.no_advice in
    let before = data_runs e.front s segments d f in
    let longer : o.length ≡ d.length + 1 = ap (λ (x : Open). x.length) e.open_is in
    let last = release_step s segments d.tag d.elements d.element d.component d.length e.release apart
    (omega (arith, longer, e.is_short)) e.release_is in
    goes_as text _ (run_then before last) e.text_is
    (ap (λ (x : Open). record { service = s; segments = segments; place = Released x }) (sym e.open_is))

-- a valid front of a text is run through, to the place where it ends
pub front_runs : (text : List ℕ) (s : Service) (segments : List Segment) (place : BytePlace) → EndsAt text s segments place
    → RunsTo start text (record { service = s; segments = segments; place = place })
front_runs text s segments (Outside fresh) e =
    goes_as text _ (whole_runs text s segments e.whole) refl (ap (outside s segments) (sym e.fresh_is))
front_runs text s segments (InService six) e =
    let runs = run_then (line_ends_run e.before usual [] true e.before_is)
    (run_then una_runs (six_go_on [] six (omega (arith, e.is_cut)))) in
    goes_as text _ runs e.text_is
    (ap (λ (x : Service). record { service = x; segments = []; place = InService six }) (sym e.service_is)
    ∙ ap (λ (x : List Segment). record { service = s; segments = x; place = InService six }) (sym e.none_yet))
front_runs text s segments (InTag fresh tag) e =
    let before = goes_as e.before _ (whole_runs e.before s segments e.before_ends.whole) refl
    (ap (outside s segments) (sym e.before_ends.fresh_is)) in
    goes_as text _ (run_then before (tag_front_runs tag s segments fresh e.tag_is e.no_advice)) e.text_is refl
front_runs text s segments (InData o) e = data_runs text s segments o e
front_runs text s segments (Released o) e = released_runs text s segments o e

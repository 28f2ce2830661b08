-- The canonical text of a segment that is open, as its bytes come.
use Rattle.std.proofs.Common.{◌≡◌, ◌<◌, ◌-◌, ℕ, Bool, true, false, List, [], ◌∷◌, ◌++◌}
use Rattle.std.proofs.Common.{length, take, Option, Some, None, refl, sym, ap, subst}
use Rattle.std.proofs.Common.{◌∙◌, append_assoc, arith}
use Rattle.std.specs.Prelude.{IfSome, ◌&&◌, not, ◌==◌, if◌then◌else◌}
use Rattle.std.specs.List.{flat_map, list_all}
use Rattle.std.proofs.lemmas.Grind.{flat_map-append}
use Rattle.std.proofs.lemmas.List.{append-nil, take_at, length-append}
use Rattle.edi_segments.specs.Spelling.{and_others, without_empty_end}
use Rattle.edi_segments.specs.Reading.{Open, with_byte, with_component, with_element}
use Rattle.edi_segments.specs.OpenSegment.{with_bytes}
use Rattle.edi_segments.specs.SegmentText.{GrowsBy}
use Rattle.edi_segments.specs.declared.segment.Service.{Service}
use Rattle.edi_segments.specs.Plain.{is_plain, are_plain}
use Rattle.edi_segments.specs.ServiceTable.{are_run}
use Rattle.edi_segments.specs.Machine.{segment_of}
use Rattle.edi_segments.specs.Text.{is_usual, byte_text, component_text, components_text, element_text, segment_text, open_text}
use Rattle.std.proofs.lemmas.Bool.{eqb-true}
use Rattle.edi_segments.proofs.Runs.{left_true, right_true}
use Rattle.edi_segments.proofs.EmptyEnd.{without_empty_end-push}

pub grown_same : (kept : Bool) (before after more : List ℕ) → after ≡ before ++ more
    → GrowsBy more (if kept then Some before else None) (if kept then Some after else None)
grown_same true before after more e = e
grown_same false before after more e = tt

-- what grows as the segment does is its text
pub still : (old new : Option (List ℕ)) (more : List ℕ) (o p : Open) → IfSome old (λ text. text ≡ open_text o) → GrowsBy more old new
    → open_text p ≡ open_text o ++ more → IfSome new (λ text. text ≡ open_text p)
still old None more o p was grows e = tt
still None (Some text) more o p was grows e = absurd grows
still (Some before) (Some text) more o p was grows e = grows ∙ ap (λ l. l ++ more) was ∙ sym e

pub kept_text : (kept : Option (List ℕ)) (text : List ℕ) (o : Open) → IfSome kept (λ text. text ≡ open_text o) → kept ≡ Some text
    → text ≡ open_text o
kept_text kept text o is e = subst (λ (k : Option (List ℕ)). IfSome k (λ text. text ≡ open_text o)) e is

-- ---- the components of an element

-- behind the first, each with a `:`
abbrev after_first : List (List ℕ) → List ℕ
after_first others = flat_map (λ component. 58 ∷ component_text component) others

-- the last component grows
components-longer : (front : List (List ℕ)) (last more : List ℕ)
    → components_text (front ++ (last ++ more) ∷ []) ≡ components_text (front ++ last ∷ []) ++ component_text more
components-longer [] last more =
    append-nil (component_text (last ++ more)) ∙ flat_map-append byte_text last more
    ∙ ap (λ l. l ++ component_text more) (sym (append-nil (component_text last)))
components-longer (first ∷ others) last more =
    let parts : after_first (others ++ (last ++ more) ∷ []) ≡ after_first (others ++ last ∷ []) ++ component_text more =
    flat_map-append (λ component. 58 ∷ component_text component) others ((last ++ more) ∷ [])
    ∙ ap (λ l. after_first others ++ (58 ∷ l)) (append-nil (component_text (last ++ more)) ∙ flat_map-append byte_text last more)
    ∙ sym (append_assoc (after_first others) (58 ∷ component_text last) (component_text more))
    ∙ ap (λ l. l ++ component_text more) (ap (λ l. after_first others ++ (58 ∷ l)) (sym (append-nil (component_text last)))
    ∙ sym (flat_map-append (λ component. 58 ∷ component_text component) others (last ∷ []))) in
    ap (λ l. component_text first ++ l) parts
    ∙ sym (append_assoc (component_text first) (after_first (others ++ last ∷ [])) (component_text more))

-- one more component, with nothing in it
components-more : (components : List (List ℕ)) → 0 < length components
    → components_text (components ++ [] ∷ []) ≡ components_text components ++ 58 ∷ []
components-more [] some = absurd (omega (arith, some))
components-more (first ∷ others) some =
    ap (λ l. component_text first ++ l) (flat_map-append (λ component. 58 ∷ component_text component) others ([] ∷ []))
    ∙ sym (append_assoc (component_text first) (after_first others) (58 ∷ []))

-- bytes that stand for themselves
plain_cons : (usual : Bool) (b : ℕ) (bytes : List ℕ) → is_usual b ≡ usual → (not usual && list_all (λ b. not (is_usual b)) bytes) ≡ true
    → (list_all (λ b. not (is_usual b)) bytes ≡ true → component_text bytes ≡ bytes) → component_text (b ∷ bytes) ≡ b ∷ bytes
plain_cons true b bytes is e others = absurd cc
plain_cons false b bytes is e others = rw is (ap (λ l. b ∷ l) (others e))

pub plain_text : (bytes : List ℕ) → list_all (λ b. not (is_usual b)) bytes ≡ true → component_text bytes ≡ bytes
plain_text [] plain = refl
plain_text (b ∷ bytes) plain = plain_cons (is_usual b) b bytes refl plain (plain_text bytes)

-- ---- a run of bytes that stand for themselves

run_cons : (plain usual more : Bool) → ((plain && not usual) && more) ≡ true → (plain ≡ true) × (not usual ≡ true) × (more ≡ true)
run_cons true false true e = (refl, refl, refl)
run_cons true false false e = absurd cc
run_cons true true more e = absurd cc
run_cons false usual more e = absurd cc

pub run_is_plain : (s : Service) (bytes : List ℕ) → are_run s bytes ≡ true → are_plain s bytes ≡ true
run_is_plain s [] run = refl
run_is_plain s (b ∷ bytes) run =
    let parts = run_cons (is_plain s b) (is_usual b) (are_run s bytes) run in
    ap (λ x. x && are_plain s bytes) parts.0 ∙ run_is_plain s bytes parts.2

pub run_is_unusual : (s : Service) (bytes : List ℕ) → are_run s bytes ≡ true → list_all (λ b. not (is_usual b)) bytes ≡ true
run_is_unusual s [] run = refl
run_is_unusual s (b ∷ bytes) run =
    let parts = run_cons (is_plain s b) (is_usual b) (are_run s bytes) run in
    ap (λ x. x && list_all (λ b. not (is_usual b)) bytes) parts.1 ∙ run_is_unusual s bytes parts.2

-- ---- the steps of an open segment

-- more text behind the open element
behind : (o p : Open) (more : List ℕ) → p.tag ≡ o.tag → p.elements ≡ o.elements
    → components_text (p.element ++ p.component ∷ []) ≡ components_text (o.element ++ o.component ∷ []) ++ more
    → open_text p ≡ open_text o ++ more
behind o p more tag elements more_is =
    let front : List ℕ = flat_map element_text o.elements in
    let rest : List ℕ = element_text (o.element ++ o.component ∷ []) in
    ap (λ l. l ++ (flat_map element_text p.elements ++ element_text (p.element ++ p.component ∷ []))) tag
    ∙ ap (λ (e : List (List (List ℕ))). o.tag ++ (flat_map element_text e ++ element_text (p.element ++ p.component ∷ []))) elements
    ∙ ap (λ l. o.tag ++ (front ++ (43 ∷ l))) more_is
    ∙ ap (λ l. o.tag ++ l) (sym (append_assoc front rest more))
    ∙ sym (append_assoc o.tag (front ++ rest) more)

pub text_bytes : (o : Open) (bytes : List ℕ) → open_text (with_bytes o bytes) ≡ open_text o ++ component_text bytes
text_bytes o bytes = behind o (with_bytes o bytes) (component_text bytes) refl refl (components-longer o.element o.component bytes)

pub text_byte : (o : Open) (b : ℕ) → open_text (with_byte o b) ≡ open_text o ++ byte_text b
text_byte o b =
    text_bytes o (b ∷ []) ∙ ap (λ l. open_text o ++ l) (append-nil (byte_text b))

pub text_component : (o : Open) → open_text (with_component o) ≡ open_text o ++ 58 ∷ []
text_component o =
    behind o (with_component o) (58 ∷ []) refl refl
    (components-more (o.element ++ o.component ∷ []) (omega (arith, length_some o.element o.component)))
  where
    length_some : (xs : List (List ℕ)) (x : List ℕ) → 0 < length (xs ++ x ∷ [])
    length_some [] x = omega arith
    length_some (y ∷ ys) x = omega arith

-- the element that is closed loses nothing of its text
closes : (o : Open) → components_text (without_empty_end (o.element ++ o.component ∷ [])) ≡ components_text (o.element ++ o.component ∷ [])
    → open_text (with_element o) ≡ open_text o ++ 43 ∷ []
closes o same =
    let front : List ℕ = flat_map element_text o.elements in
    let closed : List (List ℕ) = without_empty_end (o.element ++ o.component ∷ []) in
    ap (λ l. o.tag ++ (l ++ 43 ∷ [])) (flat_map-append element_text o.elements (closed ∷ []))
    ∙ ap (λ l. o.tag ++ ((front ++ l) ++ 43 ∷ [])) (append-nil (element_text closed) ∙ ap (λ l. 43 ∷ l) same)
    ∙ sym (append_assoc o.tag (front ++ element_text (o.element ++ o.component ∷ [])) (43 ∷ []))

not_both : (b : Bool) → b ≡ false → (true && not b) ≡ false → ⊥
not_both true e keeps = absurd cc
not_both false e keeps = absurd cc

closed_same : (xs : List (List ℕ)) (x : List ℕ) → ((length x == 0) && not (length xs == 0)) ≡ false
    → components_text (without_empty_end (xs ++ x ∷ [])) ≡ components_text (xs ++ x ∷ [])
closed_same xs (b ∷ x) keeps = ap components_text (without_empty_end-push xs (b ∷ x) (omega arith))
closed_same [] [] keeps = refl
closed_same (y ∷ ys) [] keeps = absurd (not_both (length (y ∷ ys) == 0) (grind arith) keeps)

pub text_element : (o : Open) → ((length o.component == 0) && not (length o.element == 0)) ≡ false
    → open_text (with_element o) ≡ open_text o ++ 43 ∷ []
text_element o keeps = closes o (closed_same o.element o.component keeps)

-- ---- the text of a segment that has ended

and_others-all : {A : Type 0} (x : List A) (ys xs : List (List A)) → (length ys ≡ length xs → ys ≡ xs)
    → length (and_others x ys) ≡ length (x ∷ xs) → and_others x ys ≡ x ∷ xs
and_others-all [] [] xs others e = absurd (omega (arith, e))
and_others-all [] (y ∷ ys) xs others e = ap (λ l. [] ∷ l) (others (omega (arith, e)))
and_others-all (a ∷ x) ys xs others e = ap (λ l. (a ∷ x) ∷ l) (others (omega (arith, e)))

-- all that is closed is left
without_empty_end-all : {A : Type 0} (xs : List (List A)) → length (without_empty_end xs) ≡ length xs → without_empty_end xs ≡ xs
without_empty_end-all [] e = refl
without_empty_end-all (x ∷ xs) e = and_others-all x (without_empty_end xs) xs (without_empty_end-all xs) e

take_front : (xs : List ℕ) (b : ℕ) → take (length (xs ++ b ∷ []) - 1) (xs ++ b ∷ []) ≡ xs
take_front xs b = take_at xs (b ∷ []) (length (xs ++ b ∷ []) - 1) (omega (arith, length-append xs (b ∷ [])))

ended_parts : (tag : List ℕ) (elements : List (List (List ℕ))) (element : List (List ℕ)) (component : List ℕ)
    → length element ≡ 0 → length component ≡ 0 → length (without_empty_end elements) ≡ length elements
    → take (length (tag ++ (flat_map element_text elements ++ element_text (element ++ component ∷ []))) - 1)
    (tag ++ (flat_map element_text elements ++ element_text (element ++ component ∷ []))) ++ 39 ∷ []
    ≡ tag ++ flat_map element_text (without_empty_end elements) ++ 39 ∷ []
ended_parts tag elements [] [] first none all =
    ap (λ (l : List ℕ). take (length l - 1) l ++ 39 ∷ []) (sym (append_assoc tag (flat_map element_text elements) (43 ∷ [])))
    ∙ ap (λ l. l ++ 39 ∷ []) (take_front (tag ++ flat_map element_text elements) 43)
    ∙ ap (λ (e : List (List (List ℕ))). tag ++ flat_map element_text e ++ 39 ∷ []) (sym (without_empty_end-all elements all))
ended_parts tag elements (x ∷ xs) component first none all = absurd (omega (arith, first))
ended_parts tag elements [] (b ∷ bs) first none all = absurd (omega (arith, none))

pub ended_text : (o : Open)
    → ((length o.element == 0 && length o.component == 0) && length (without_empty_end o.elements) == length o.elements) ≡ true
    → take (length (open_text o) - 1) (open_text o) ++ 39 ∷ [] ≡ segment_text (segment_of o)
ended_text o is =
    let none = left_true (length o.element == 0 && length o.component == 0)
    (length (without_empty_end o.elements) == length o.elements) is in
    let all = right_true (length o.element == 0 && length o.component == 0)
    (length (without_empty_end o.elements) == length o.elements) is in
    ended_parts o.tag o.elements o.element o.component
    (eqb-true (length o.element) 0 (left_true (length o.element == 0) (length o.component == 0) none))
    (eqb-true (length o.component) 0 (right_true (length o.element == 0) (length o.component == 0) none))
    (eqb-true (length (without_empty_end o.elements)) (length o.elements) all)

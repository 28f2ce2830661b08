-- Shows that what is read from a text is bytes, and that its canonical text is too.
use Rattle.std.proofs.Common.{◌≡◌, ℕ, zero, suc, ◌+◌, ◌%◌, ◌==◌, ◌<◌, ◌≤◌, nat_le, Bool, true, false, cond, ◌||◌}
use Rattle.std.proofs.Common.{List, [], ◌∷◌, ◌++◌, map, take, drop, length, set, get_or, codes, refl, sym, subst, arith}
use Rattle.std.specs.List.{AllByRecursion, flat_map, list_all}
use Rattle.std.specs.Char.{is_ascii_digit}
use Rattle.std.specs.Fmt.{decimal}
use Rattle.std.proofs.lemmas.Bool.{and_parts, and_from, leb-true, lt-ltb}
use Rattle.std.proofs.lemmas.Bool.Decides.{nat_tests}
use Rattle.std.proofs.lemmas.Fmt.{decimal_by_steps}
use Rattle.edi_base.specs.Limits.{has_length, is_printable}
use Rattle.gs1_ids.specs.Gln.{is_gln}
use Rattle.edi_segments.specs.declared.segment.Segment.{Segment}
use Rattle.edi_segments.specs.declared.segment.Service.{Service}
use Rattle.edi_segments.specs.Characters.{is_data, is_capital, is_digit}
use Rattle.edi_segments.specs.Segment.{element_at}
use Rattle.edi_segments.specs.Spelling.{Each, Behind, Before, SpellsByte, SpellsComponent, SpellsElement}
use Rattle.edi_segments.specs.Spelling.{SpellsNext, Spells, IsTag, and_others, without_empty_end}
use Rattle.edi_tokens.specs.Text.{is_usual, byte_text, component_text, components_text, element_text, segment_text, text}
use Rattle.edi_tokens.proofs.SpelledAgain.{all_push}
use Rattle.edi_envelope.specs.Mail.{with_one, renumbered}
use Rattle.edi_envelope.specs.Segments.{is_unh, is_unt}
use Rattle.hub_store.specs.Clean.{are_bytes}
use Rattle.hub_rules.specs.declared.cancel.Cancel.{Cancel}
use Rattle.hub_law.specs.CancelText.{cancel_text}
use Rattle.hub_law.specs.Widths.{line}
use Rattle.hub_clean.specs.Clean.{WithinCancel}

abbrev pub AreBytes : List ℕ → Type 0
AreBytes = AllByRecursion (λ b. b < 256)

-- a segment that consists of bytes
pub record ByteSegment (segment : Segment) : Type 0 where
  pub tag : AreBytes segment.tag
  pub elements : AllByRecursion (AllByRecursion AreBytes) segment.elements

-- Lists.

module _ {X : Type 0} (P : X → Type 0) where
  pub all_append : (a b : List X) → AllByRecursion P a → AllByRecursion P b → AllByRecursion P (a ++ b)
  all_append [] b first second = second
  all_append (x ∷ a) b first second = (first.0, all_append a b first.1 second)

  pub all_take : (n : ℕ) (xs : List X) → AllByRecursion P xs → AllByRecursion P (take n xs)
  all_take zero [] all = tt
  all_take zero (x ∷ xs) all = tt
  all_take (suc n) [] all = tt
  all_take (suc n) (x ∷ xs) all = (all.0, all_take n xs all.1)

  pub all_drop : (n : ℕ) (xs : List X) → AllByRecursion P xs → AllByRecursion P (drop n xs)
  all_drop zero [] all = tt
  all_drop zero (x ∷ xs) all = all
  all_drop (suc n) [] all = tt
  all_drop (suc n) (x ∷ xs) all = all_drop n xs all.1

  all_set : (xs : List X) (i : ℕ) (y : X) → AllByRecursion P xs → P y → AllByRecursion P (set xs i y)
  all_set [] zero y all one = tt
  all_set [] (suc i) y all one = tt
  all_set (x ∷ xs) zero y all one = (one, all.1)
  all_set (x ∷ xs) (suc i) y all one = (all.0, all_set xs i y all.1 one)

  all_at : (xs : List X) (i : ℕ) (d : X) → AllByRecursion P xs → P d → P (get_or xs i d)
  all_at [] zero d all none = none
  all_at [] (suc i) d all none = none
  all_at (x ∷ xs) zero d all none = all.0
  all_at (x ∷ xs) (suc i) d all none = all_at xs i d all.1 none

bytes_flat : {X : Type 0} (f : X → List ℕ) (xs : List X) → AllByRecursion (λ x. AreBytes (f x)) xs → AreBytes (flat_map f xs)
bytes_flat f [] all = tt
bytes_flat f (x ∷ xs) all = all_append (λ b. b < 256) (f x) (flat_map f xs) all.0 (bytes_flat f xs all.1)

all_each : {X : Type 0} (P Q : X → Type 0) → ((x : X) → P x → Q x) → (xs : List X) → AllByRecursion P xs → AllByRecursion Q xs
all_each P Q f [] all = tt
all_each P Q f (x ∷ xs) all = (f x all.0, all_each P Q f xs all.1)

pub are : (bytes : List ℕ) → AreBytes bytes → are_bytes bytes ≡ true
are [] all = refl
are (b ∷ bytes) all = and_from _ _ (lt-ltb b 256 all.0) (are bytes all.1)

-- Canonical texts.

byte_written : (b : ℕ) → b < 256 → AreBytes (byte_text b)
byte_written b h = elim (is_usual b) as (λ v. AreBytes (cond v (63 ∷ b ∷ []) (b ∷ []))) [
  | true ↦ (omega arith, (h, tt))
  | false ↦ (h, tt)
]

component_written : (component : List ℕ) → AreBytes component → AreBytes (component_text component)
component_written component all =
    bytes_flat byte_text component (all_each (λ b. b < 256) (λ b. AreBytes (byte_text b)) byte_written component all)

components_written : (components : List (List ℕ)) → AllByRecursion AreBytes components → AreBytes (components_text components)
components_written [] all = tt
components_written (first ∷ others) all =
    all_append (λ b. b < 256) (component_text first) _ (component_written first all.0)
    (bytes_flat (λ component. 58 ∷ component_text component) others
    (all_each AreBytes (λ component. AreBytes (58 ∷ component_text component)) (λ c h. (omega arith, component_written c h)) others all.1))

segment_written : (segment : Segment) → ByteSegment segment → AreBytes (segment_text segment)
segment_written segment h =
    let elements = bytes_flat element_text segment.elements
    (all_each (AllByRecursion AreBytes) (λ components. AreBytes (element_text components)) (λ cs h. (omega arith, components_written cs h))
    segment.elements h.elements) in
    let end : AreBytes (39 ∷ []) = (omega arith, tt) in
    all_append (λ b. b < 256) (segment.tag ++ flat_map element_text segment.elements) _
    (all_append (λ b. b < 256) segment.tag _ h.tag elements) end

pub text_written : (segments : List Segment) → AllByRecursion ByteSegment segments → are_bytes (text segments) ≡ true
text_written segments all =
    are (text segments) (bytes_flat segment_text segments (all_each ByteSegment (λ s. AreBytes (segment_text s)) segment_written segments
    all))

-- References.

one_written : (elements : List (List (List ℕ))) (place : ℕ) → AllByRecursion (AllByRecursion AreBytes) elements
    → AllByRecursion (AllByRecursion AreBytes) (with_one elements place)
one_written elements place all =
    let one : AreBytes (codes "1") = (omega arith, tt) in
    all_set (AllByRecursion AreBytes) elements place _ all
    (all_set AreBytes (element_at elements place) 0 (codes "1") (all_at (AllByRecursion AreBytes) elements place [] all tt) one)

renumbered_is : (segment : Segment) → ByteSegment segment → ByteSegment (renumbered segment)
renumbered_is segment h =
    elim (is_unh segment) as (λ v. ByteSegment (cond v (record { tag = segment.tag; elements = with_one segment.elements 0 })
    (cond (is_unt segment) (record { tag = segment.tag; elements = with_one segment.elements 1 }) segment))) [
      | true ↦ record { tag = h.tag; elements = one_written segment.elements 0 h.elements }
      | false ↦ elim (is_unt segment) as (λ v. ByteSegment (cond v (record { tag = segment.tag; elements = with_one segment.elements 1 })
          segment)) [
            | true ↦ record { tag = h.tag; elements = one_written segment.elements 1 h.elements }
            | false ↦ h
          ]
    ]

pub all_renumbered : (segments : List Segment) → AllByRecursion ByteSegment segments → AllByRecursion ByteSegment (map renumbered segments)
all_renumbered [] all = tt
all_renumbered (segment ∷ segments) all = (renumbered_is segment all.0, all_renumbered segments all.1)

-- For a text that is written in parts.

each_is : {X : Type 0} (R : List ℕ → X → Type 0) (P : X → Type 0) (spelled : List ℕ) (xs : List X)
    → ((part : List ℕ) (x : X) → R part x → P x)
    → Each R spelled xs
    → AllByRecursion P xs
each_is R P spelled [] f e = tt
each_is R P spelled (x ∷ xs) f e = (f e.0 x e.3, each_is R P e.1 xs f e.4)

data_small : (b : ℕ) → is_data b ≡ true → b < 256
data_small b h = grind (arith, nat_tests)

component_spelled : (s : Service) (part component : List ℕ) → SpellsComponent s part component → AreBytes component
component_spelled s part component e =
    each_is (SpellsByte s) (λ b. b < 256) part component (λ part b h. data_small b h.0) e

element_spelled : (s : Service) (part : List ℕ) (components : List (List ℕ))
    → Behind s.element (SpellsElement s) part components
    → AllByRecursion AreBytes components
element_spelled s part components e =
    let inner = e.2 in
    subst (AllByRecursion AreBytes) (sym inner.components_are) (all_push AreBytes inner.closed inner.last
    (each_is (Before s.component (SpellsComponent s)) AreBytes inner.front inner.closed
    (λ (t : List ℕ) (c : List ℕ) (h : Before s.component (SpellsComponent s) t c). component_spelled s h.0 c h.2)
    inner.front_spells)
    (component_spelled s inner.back inner.last inner.back_spells))

others_keep : {A : Type 0} (P : List A → Type 0) (x : List A) (xs : List (List A)) → P x → AllByRecursion P xs
    → AllByRecursion P (and_others x xs)
others_keep P [] [] p ps = tt
others_keep P [] (y ∷ ys) p ps = (p, ps)
others_keep P (a ∷ x) ys p ps = (p, ps)

end_keeps : {A : Type 0} (P : List A → Type 0) (xs : List (List A)) → AllByRecursion P xs → AllByRecursion P (without_empty_end xs)
end_keeps P [] ps = tt
end_keeps P (x ∷ xs) ps = others_keep P x (without_empty_end xs) ps.0 (end_keeps P xs ps.1)

ends_keep : (written : List (List (List ℕ)))
    → AllByRecursion (AllByRecursion AreBytes) written
    → AllByRecursion (AllByRecursion AreBytes) (map without_empty_end written)
ends_keep [] ps = tt
ends_keep (w ∷ ws) ps = (end_keeps AreBytes w ps.0, ends_keep ws ps.1)

tag_small : (tag : List ℕ) → IsTag tag → AreBytes tag
tag_small [] h = absurd h
tag_small (a ∷ []) h = absurd h
tag_small (a ∷ b ∷ []) h = absurd h
tag_small (a ∷ b ∷ c ∷ []) h =
    let first : is_capital a ≡ true = h.0 in
    let second : (is_capital b || is_digit b) ≡ true = h.1 in
    let third : (is_capital c || is_digit c) ≡ true = h.2 in
    (capital_small a first, (in_tag_small b second, (in_tag_small c third, tt)))
  where
    capital_small : (b : ℕ) → is_capital b ≡ true → b < 256
    capital_small b h = grind (arith, nat_tests)

    in_tag_small : (b : ℕ) → (is_capital b || is_digit b) ≡ true → b < 256
    in_tag_small b h = grind (arith, nat_tests)
tag_small (a ∷ b ∷ c ∷ d ∷ rest) h = absurd h

next_spelled : (s : Service) (part : List ℕ) (segment : Segment) → SpellsNext s part segment → ByteSegment segment
next_spelled s part segment h =
    let e = h.4 in
    let written =
    each_is (Behind s.element (SpellsElement s)) (AllByRecursion AreBytes) e.body e.written (element_spelled s) e.body_spells in
    record {
      tag = tag_small segment.tag e.tag_is;
      elements =
          subst (AllByRecursion (AllByRecursion AreBytes)) (sym e.elements_are)
          (end_keeps (AllByRecursion AreBytes) (map without_empty_end e.written) (ends_keep e.written written));
    }

pub spelled_bytes : (bytes : List ℕ) (s : Service) (segments : List Segment) → Spells bytes s segments → AllByRecursion ByteSegment segments
spelled_bytes bytes s segments e = each_is (SpellsNext s) ByteSegment e.whole.body segments (next_spelled s) e.whole.body_spells

-- Cancellations.

tested_bytes : (p : ℕ → Bool) → ((b : ℕ) → p b ≡ true → b < 256) → (bytes : List ℕ) → list_all p bytes ≡ true → AreBytes bytes
tested_bytes p f [] h = tt
tested_bytes p f (b ∷ bytes) h = let parts = and_parts (p b) (list_all p bytes) h in (f b parts.0, tested_bytes p f bytes parts.1)

printable_small : (b : ℕ) → is_printable b ≡ true → b < 256
printable_small b h = grind (arith, nat_tests)

digit_small : (b : ℕ) → is_ascii_digit b ≡ true → b < 256
digit_small b h = grind (arith, nat_tests)

decimal_bytes : (n : ℕ) → n ≤ 999_999_999 → AreBytes (decimal n)
decimal_bytes n small =
    decimal_by_steps (λ n ds. AreBytes ds) (λ n h. (omega arith, tt))
    (λ n ds h d. all_append (λ b. b < 256) ds ((48 + n % 10) ∷ []) d (omega arith, tt)) n (omega (arith, small))

line_bytes : (field : List ℕ) → AreBytes field → AreBytes (line (field ∷ []))
line_bytes field h = all_append (λ b. b < 256) field (0x0A ∷ []) h (omega arith, tt)

pub cancel_bytes : (cancel : Cancel) → is_gln cancel.supplier ≡ true → WithinCancel cancel → are_bytes (cancel_text cancel) ≡ true
cancel_bytes cancel gln within =
    let digits = (and_parts (list_all is_ascii_digit cancel.supplier) _ (and_parts (length cancel.supplier == 13) _ gln).1).0 in
    let supplier = tested_bytes is_ascii_digit digit_small cancel.supplier digits in
    let reference = tested_bytes is_printable printable_small cancel.reference
    (and_parts (has_length 1 14 cancel.reference) _ within.reference).1 in
    let order = tested_bytes is_printable printable_small cancel.order
    (and_parts (has_length 1 35 cancel.order) _ within.order).1 in
    let few : cancel.line ≤ 999_999 = leb-true _ _ (and_parts (nat_le 1 cancel.line) (nat_le cancel.line 999_999) within.line).1 in
    let number = decimal_bytes cancel.line (omega (arith, few)) in
    let quantity = decimal_bytes cancel.quantity (leb-true cancel.quantity 999_999_999 (and_parts _ _ within.quantity).1) in
    are (cancel_text cancel) (bytes_flat (λ field. line (field ∷ []))
    (cancel.supplier ∷ cancel.reference ∷ cancel.order ∷ decimal cancel.line ∷ decimal cancel.quantity ∷ []) (
      line_bytes cancel.supplier supplier,
      (
        line_bytes cancel.reference reference,
        (
          line_bytes cancel.order order,
          (line_bytes (decimal cancel.line) number, (line_bytes (decimal cancel.quantity) quantity, tt)),
        ),
      ),
    ))

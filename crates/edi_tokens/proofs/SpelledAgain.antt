-- The canonical text of what some text spells spells it again.
use Rattle.std.proofs.Common.{◌≡◌, ℕ, ◌≤◌, Bool, true, false, List, [], ◌∷◌, ◌++◌, length, map, Some, refl, sym, ap, subst}
use Rattle.std.proofs.Common.{◌∙◌, append_assoc, append-nil, inl, inr}
use Rattle.std.specs.Prelude.{IsTrue, not, ◌⊎◌}
use Rattle.std.specs.List.{AllByRecursion, flat_map}
use Rattle.edi_segments.specs.declared.segment.Service.{Service}
use Rattle.edi_segments.specs.declared.segment.Segment.{Segment}
use Rattle.edi_segments.specs.Characters.{is_data}
use Rattle.edi_segments.specs.Service.{service_of, with_decimal}
use Rattle.edi_segments.specs.Spelling.{text_limit, segment_limit, Each, Behind, Before, SpellsByte, SpellsComponent}
use Rattle.edi_segments.specs.Spelling.{SpellsElement, SpellsSegment, SpellsNext, Spells, IsTag, without_empty_end}
use Rattle.edi_segments.specs.Spelling.{and_others}
use Rattle.edi_tokens.specs.Text.{is_usual, byte_text, component_text, components_text, element_text, segment_text, text, una}

-- ---- what is spelled is in its counted form

abbrev Data : List ℕ → Type 0
Data component = AllByRecursion (λ b. IsTrue (is_data b)) component

abbrev DataElement : List (List ℕ) → Type 0
DataElement components = AllByRecursion Data components

abbrev Trimmed : List (List ℕ) → Type 0
Trimmed components = without_empty_end components ≡ components

-- a segment as reading gives it
record IsCounted (x : Segment) : Type 0 where
  tag_is : IsTag x.tag
  data_are : AllByRecursion DataElement x.elements
  each_trimmed : AllByRecursion Trimmed x.elements
  trimmed : without_empty_end x.elements ≡ x.elements

others_all : {A : Type 0} (P : List A → Type 0) (x : List A) (xs : List (List A))
    → P x
    → AllByRecursion P xs
    → AllByRecursion P (and_others x xs)
others_all P [] [] p ps = tt
others_all P [] (y ∷ ys) p ps = (p, ps)
others_all P (a ∷ x) ys p ps = (p, ps)

trim_all : {A : Type 0} (P : List A → Type 0) (xs : List (List A)) → AllByRecursion P xs → AllByRecursion P (without_empty_end xs)
trim_all P [] ps = tt
trim_all P (x ∷ xs) ps = others_all P x (without_empty_end xs) ps.0 (trim_all P xs ps.1)

others_trimmed : {A : Type 0} (x : List A) (xs : List (List A))
    → without_empty_end xs ≡ xs
    → without_empty_end (and_others x xs) ≡ and_others x xs
others_trimmed [] [] e = refl
others_trimmed [] (y ∷ ys) e = ap (and_others []) e
others_trimmed {A} (a ∷ x) ys e = ap (λ (zs : List (List A)). (a ∷ x) ∷ zs) e

trim_twice : {A : Type 0} (xs : List (List A)) → without_empty_end (without_empty_end xs) ≡ without_empty_end xs
trim_twice [] = refl
trim_twice (x ∷ xs) = others_trimmed x (without_empty_end xs) (trim_twice xs)

each_all : {A : Type 0} (R : List ℕ → A → Type 0) (P : A → Type 0) (spelled : List ℕ) (xs : List A)
    → ((part : List ℕ) (x : A) → R part x → P x)
    → Each R spelled xs
    → AllByRecursion P xs
each_all R P spelled [] f e = tt
each_all R P spelled (x ∷ xs) f e = (f e.0 x e.3, each_all R P e.1 xs f e.4)

byte_is_data : (s : Service) (part : List ℕ) (b : ℕ) → SpellsByte s part b → IsTrue (is_data b)
byte_is_data s part b e = e.0

component_is_data : (s : Service) (part component : List ℕ) → SpellsComponent s part component → Data component
component_is_data s part component e = each_all (SpellsByte s) (λ b. IsTrue (is_data b)) part component (byte_is_data s) e

pub all_push : {A : Type 0} (P : A → Type 0) (xs : List A) (x : A) → AllByRecursion P xs → P x → AllByRecursion P (xs ++ x ∷ [])
all_push P [] x ps p = (p, tt)
all_push P (y ∷ xs) x ps p = (ps.0, all_push P xs x ps.1 p)

element_is_data : (s : Service) (part : List ℕ) (components : List (List ℕ))
    → Behind s.element (SpellsElement s) part components
    → DataElement components
element_is_data s part components e =
    let inner = e.2 in
    subst DataElement (sym inner.components_are) (all_push Data inner.closed inner.last
    (each_all (Before s.component (SpellsComponent s)) Data inner.front inner.closed
    (λ (t : List ℕ) (c : List ℕ) (h : Before s.component (SpellsComponent s) t c). component_is_data s h.0 c h.2)
    inner.front_spells)
    (component_is_data s inner.back inner.last inner.back_spells))

all_trimmed_data : (written : List (List (List ℕ)))
    → AllByRecursion DataElement written
    → AllByRecursion DataElement (map without_empty_end written)
all_trimmed_data [] ps = tt
all_trimmed_data (w ∷ ws) ps = (trim_all Data w ps.0, all_trimmed_data ws ps.1)

all_trimmed : (written : List (List (List ℕ))) → AllByRecursion Trimmed (map without_empty_end written)
all_trimmed [] = tt
all_trimmed (w ∷ ws) = (trim_twice w, all_trimmed ws)

segment_is_counted : (s : Service) (part : List ℕ) (x : Segment) → SpellsSegment s part x → IsCounted x
segment_is_counted s part x e =
    let data_written = each_all (Behind s.element (SpellsElement s)) DataElement e.body e.written (element_is_data s) e.body_spells in
    record {
      tag_is = e.tag_is;
      data_are =
          subst (AllByRecursion DataElement) (sym e.elements_are)
          (trim_all DataElement (map without_empty_end e.written) (all_trimmed_data e.written data_written));
      each_trimmed =
          subst (AllByRecursion Trimmed) (sym e.elements_are)
          (trim_all Trimmed (map without_empty_end e.written) (all_trimmed e.written));
      trimmed =
          subst (λ (y : List (List (List ℕ))). without_empty_end y ≡ y) (sym e.elements_are)
          (trim_twice (map without_empty_end e.written));
    }

-- ---- the canonical text of what is in its counted form

module _ (decimal : ℕ) where
  byte_spelled : (b : ℕ) → IsTrue (is_data b) → SpellsByte (with_decimal decimal) (byte_text b) b
  byte_spelled b h = (h, go (is_usual b) refl)
    where
      go : (usual : Bool)
          → is_usual b ≡ usual
          → ((byte_text b ≡ b ∷ []) × IsTrue (not (is_usual b))) ⊎ ((r : ℕ) × (Some 63 ≡ Some r) × (byte_text b ≡ r ∷ b ∷ []))
      go true e = inr (63, refl, rw e refl)
      go false e = inl (rw e refl, ap not e)

  component_spelled : (component : List ℕ) → Data component → SpellsComponent (with_decimal decimal) (component_text component) component
  component_spelled [] data_are = refl
  component_spelled (b ∷ component) data_are =
      (byte_text b, component_text component, refl, byte_spelled b data_are.0, component_spelled component data_are.1)

  -- an element without components is written as one empty one
  abbrev filled : List (List ℕ) → List (List ℕ)
  filled [] = [] ∷ []
  filled (c ∷ cs) = c ∷ cs

  others_text : List (List ℕ) → List ℕ
  others_text others = flat_map (λ component. 58 ∷ component_text component) others

  components_spelled : (first : List ℕ) (others : List (List ℕ))
      → Data first
      → DataElement others
      → SpellsElement (with_decimal decimal)
      (component_text first ++ flat_map (λ component. 58 ∷ component_text component) others) (first ∷ others)
  components_spelled first [] h hs = record {
    front = [];
    back = component_text first;
    closed = [];
    last = first;
    text_is = append-nil (component_text first);
    components_are = refl;
    front_spells = refl;
    back_spells = component_spelled first h;
  }
  components_spelled first (second ∷ others) h hs =
      let rest = components_spelled second others hs.0 hs.1 in
      record {
        front = (component_text first ++ 58 ∷ []) ++ rest.front;
        back = rest.back;
        closed = first ∷ rest.closed;
        last = rest.last;
        text_is = ap (λ (t : List ℕ). component_text first ++ 58 ∷ t) rest.text_is ∙ simp append_assoc;
        components_are = ap (λ (cs : List (List ℕ)). first ∷ cs) rest.components_are;
        front_spells = (
          component_text first ++ 58 ∷ [],
          rest.front,
          refl,
          (component_text first, refl, component_spelled first h),
          rest.front_spells,
        );
        back_spells = rest.back_spells;
      }

  element_spelled : (components : List (List ℕ))
      → DataElement components
      → SpellsElement (with_decimal decimal) (components_text components) (filled components)
  element_spelled [] hs =
      record {
        front = [];
        back = [];
        closed = [];
        last = [];
        text_is = refl;
        components_are = refl;
        front_spells = refl;
        back_spells = refl;
      }
  element_spelled (first ∷ others) hs = components_spelled first others hs.0 hs.1

  elements_spelled : (elements : List (List (List ℕ)))
      → AllByRecursion DataElement elements
      → Each (Behind 43 (SpellsElement (with_decimal decimal))) (flat_map element_text elements) (map filled elements)
  elements_spelled [] hs = refl
  elements_spelled (e ∷ elements) hs = (
    element_text e,
    flat_map element_text elements,
    refl,
    (components_text e, refl, element_spelled e hs.0),
    elements_spelled elements hs.1,
  )

  filled_counts : (elements : List (List (List ℕ)))
      → AllByRecursion Trimmed elements
      → map without_empty_end (map filled elements) ≡ elements
  filled_counts [] hs = refl
  filled_counts ([] ∷ elements) hs = ap (λ (es : List (List (List ℕ))). [] ∷ es) (filled_counts elements hs.1)
  filled_counts ((c ∷ cs) ∷ elements) hs =
      ap (λ (e : List (List ℕ)). e ∷ map without_empty_end (map filled elements)) hs.0
      ∙ ap (λ (es : List (List (List ℕ))). (c ∷ cs) ∷ es) (filled_counts elements hs.1)

  segment_spelled : (x : Segment)
      → IsCounted x
      → length (segment_text x) ≤ segment_limit
      → SpellsSegment (with_decimal decimal) (segment_text x) x
  segment_spelled x is short = record {
    body = flat_map element_text x.elements;
    written = map filled x.elements;
    text_is = refl;
    tag_is = is.tag_is;
    body_spells = elements_spelled x.elements is.data_are;
    elements_are = sym (ap without_empty_end (filled_counts x.elements is.each_trimmed) ∙ is.trimmed);
    is_short = short;
  }

  segments_spelled : (xs : List Segment)
      → AllByRecursion IsCounted xs
      → AllByRecursion (λ x. length (segment_text x) ≤ segment_limit) xs
      → Each (SpellsNext (with_decimal decimal)) (text xs) xs
  segments_spelled [] is short = refl
  segments_spelled (x ∷ xs) is short = (
    segment_text x,
    text xs,
    refl,
    ([], segment_text x, refl, tt, segment_spelled x is.0 short.0),
    segments_spelled xs is.1 short.1,
  )

next_is_counted : (s : Service) (part : List ℕ) (x : Segment) → SpellsNext s part x → IsCounted x
next_is_counted s part x e = segment_is_counted s e.1 x e.4

-- what some text spells, its canonical text spells again, where it keeps within both lengths
pub canonical_again : (bytes : List ℕ) (s : Service) (xs : List Segment) (decimal : ℕ)
    → Spells bytes s xs
    → (decimal ≡ 46) ⊎ (decimal ≡ 44)
    → AllByRecursion (λ x. length (segment_text x) ≤ segment_limit) xs
    → length (una decimal ++ text xs) ≤ text_limit → Spells (una decimal ++ text xs) (with_decimal decimal) xs
canonical_again bytes s xs decimal e mark short whole_short =
    let are = each_all (SpellsNext s) IsCounted e.whole.body xs (next_is_counted s) e.whole.body_spells in
    record {
      whole = record {
        advice = Some (record { before = []; six = 58 ∷ 43 ∷ decimal ∷ 63 ∷ 32 ∷ 39 ∷ [] });
        body = text xs;
        tail = [];
        text_is = sym (append-nil (una decimal ++ text xs));
        advises = (tt, right mark);
        body_spells = segments_spelled decimal xs are short;
        tail_is = tt;
      };
      is_short = whole_short;
    }
  where
    right : (decimal ≡ 46) ⊎ (decimal ≡ 44) → service_of (58 ∷ 43 ∷ decimal ∷ 63 ∷ 32 ∷ 39 ∷ []) ≡ Some (with_decimal decimal)
    right (inl stop) = subst (λ (d : ℕ). service_of (58 ∷ 43 ∷ d ∷ 63 ∷ 32 ∷ 39 ∷ []) ≡ Some (with_decimal d)) (sym stop) refl
    right (inr comma) = subst (λ (d : ℕ). service_of (58 ∷ 43 ∷ d ∷ 63 ∷ 32 ∷ 39 ∷ []) ≡ Some (with_decimal d)) (sym comma) refl

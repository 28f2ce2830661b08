-- What a text spells (ISO 9735 syntax version 3: character sets, structures, compression): the token grammar, as a
-- relation.
use Rattle.std.specs.Prelude.{◌≡◌, ◌≢◌, ◌⊎◌, ◌≤◌, ℕ, IsTrue, ◌||◌, not, List, [], ◌∷◌, ◌++◌, length, map, Option, Some}
use Rattle.std.specs.Prelude.{None}
use Rattle.std.specs.List.{AllByRecursion}
use Rattle.edi_segments.specs.declared.segment.Service.{Service}
use Rattle.edi_segments.specs.declared.segment.Segment.{Segment}
use Rattle.edi_segments.specs.Characters.{is_data, is_special, is_capital, is_digit, is_line_end}
use Rattle.edi_segments.specs.Service.{usual, una_tag, service_of}

-- the longest text and the longest segment, tag and terminator counted, in bytes
abbrev pub text_limit : ℕ
text_limit = 1048576

abbrev pub segment_limit : ℕ
segment_limit = 8192

-- the members of a list, each spelled by a part of the text, one part after another
abbrev pub Each : {A : Type 0} → (List ℕ → A → Type 0) → List ℕ → List A → Type 0
Each R text [] = text ≡ []
Each R text (x ∷ xs) = (first rest : List ℕ) × (text ≡ first ++ rest) × R first x × Each R rest xs

-- after a separator, and before one
abbrev pub Behind : {A : Type 0} → ℕ → (List ℕ → A → Type 0) → List ℕ → A → Type 0
Behind separator R text x = (rest : List ℕ) × (text ≡ separator ∷ rest) × R rest x

abbrev pub Before : {A : Type 0} → ℕ → (List ℕ → A → Type 0) → List ℕ → A → Type 0
Before separator R text x = (front : List ℕ) × (text ≡ front ++ separator ∷ []) × R front x

-- a data byte: alone if it is not special, or after the release character, whichever it is
abbrev pub SpellsByte : Service → List ℕ → ℕ → Type 0
SpellsByte s text b =
    IsTrue (is_data b) × (((text ≡ b ∷ []) × IsTrue (not (is_special s b)))
    ⊎ ((r : ℕ) × (s.release ≡ Some r) × (text ≡ r ∷ b ∷ [])))

abbrev pub SpellsComponent : Service → List ℕ → List ℕ → Type 0
SpellsComponent s text component = Each (SpellsByte s) text component

-- an element: one component or more, each but the last before a component separator
pub record SpellsElement (s : Service) (text : List ℕ) (components : List (List ℕ)) : Type 0 where
  pub front : List ℕ
  pub back : List ℕ
  pub closed : List (List ℕ)
  pub last : List ℕ
  pub text_is : text ≡ front ++ back
  pub components_are : components ≡ closed ++ last ∷ []
  pub front_spells : Each (Before s.component (SpellsComponent s)) front closed
  pub back_spells : SpellsComponent s back last

-- a list without the empty ones at its end
abbrev pub and_others : {A : Type 0} → List A → List (List A) → List (List A)
and_others [] [] = []
and_others [] (y ∷ ys) = [] ∷ y ∷ ys
and_others (a ∷ x) ys = (a ∷ x) ∷ ys

abbrev pub without_empty_end : {A : Type 0} → List (List A) → List (List A)
without_empty_end [] = []
without_empty_end (x ∷ xs) = and_others x (without_empty_end xs)

-- the elements as they count: empty last components and elements are dropped
abbrev pub counted : List (List (List ℕ)) → List (List (List ℕ))
counted written = without_empty_end (map without_empty_end written)

-- a capital letter, then two capital letters or digits
abbrev pub IsTag : List ℕ → Type 0
IsTag (a ∷ b ∷ c ∷ []) = IsTrue (is_capital a) × IsTrue (is_capital b || is_digit b)
    × IsTrue (is_capital c || is_digit c)
IsTag _ = ⊥

-- a segment: the tag, each element after an element separator, the terminator
pub record SpellsSegment (s : Service) (text : List ℕ) (segment : Segment) : Type 0 where
  pub body : List ℕ
  pub written : List (List (List ℕ))
  pub text_is : text ≡ segment.tag ++ body ++ s.terminator ∷ []
  pub tag_is : IsTag segment.tag
  pub body_spells : Each (Behind s.element (SpellsElement s)) body written
  pub elements_are : segment.elements ≡ counted written
  pub is_short : length text ≤ segment_limit

abbrev pub LineEnds : List ℕ → Type 0
LineEnds text = AllByRecursion (λ b. IsTrue (is_line_end b)) text

-- a segment, with the line ends before it
abbrev pub SpellsNext : Service → List ℕ → Segment → Type 0
SpellsNext s text segment = (front back : List ℕ) × (text ≡ front ++ back) × LineEnds front
    × SpellsSegment s back segment

-- the service string: the line ends before it, and its six characters
pub record Advice : Type 0 where
  pub before : List ℕ
  pub six : List ℕ

abbrev pub advice_text : Option Advice → List ℕ
advice_text None = []
advice_text (Some a) = a.before ++ (una_tag ++ a.six)

abbrev pub tags : List Segment → List (List ℕ)
tags segments = map (λ segment. segment.tag) segments

-- `UNA` in the place of the first tag is a service string
abbrev pub IsNoAdvice : List (List ℕ) → Type 0
IsNoAdvice [] = Unit {0}
IsNoAdvice (tag ∷ others) = tag ≢ una_tag

-- the service characters are those of the service string if there is one, or else the usual ones
abbrev pub Advises : Option Advice → Service → List (List ℕ) → Type 0
Advises None s tags = (s ≡ usual) × IsNoAdvice tags
Advises (Some a) s tags = LineEnds a.before × (service_of a.six ≡ Some s)

-- whole segments, with what comes before and after them
pub record SpellsWhole (text : List ℕ) (s : Service) (segments : List Segment) : Type 0 where
  pub advice : Option Advice
  pub body : List ℕ
  pub tail : List ℕ
  pub text_is : text ≡ (advice_text advice ++ body) ++ tail
  pub advises : Advises advice s (tags segments)
  pub body_spells : Each (SpellsNext s) body segments
  pub tail_is : LineEnds tail

-- the text spells these segments, with these service characters
pub record Spells (text : List ℕ) (s : Service) (segments : List Segment) : Type 0 where
  pub whole : SpellsWhole text s segments
  pub is_short : length text ≤ text_limit

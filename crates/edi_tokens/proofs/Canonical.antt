-- The text of segments, a part at a time, and that of a component, a run of plain bytes at a time.
use Rattle.std.proofs.Common.{◌≡◌, ℕ, ◌+◌, ◌<◌, ◌≤◌, suc, true, List, [], ◌∷◌, ◌++◌, length, get_or, take, drop, refl, sym}
use Rattle.std.proofs.Common.{ap, subst, ◌∙◌, append_assoc, arith}
use Rattle.std.proofs.lemmas.List.{length-drop, get_or-drop, drop_all}
use Rattle.std.proofs.Math.Seq.{drop-cons}
use Rattle.std.proofs.lemmas.Grind.{flat_map-append}
use Rattle.std.specs.List.{flat_map}
use Rattle.edi_segments.specs.declared.segment.Segment.{Segment}
use Rattle.edi_tokens.specs.Text.{is_usual, byte_text, component_text, element_text, segment_text}

-- the part of one item, and those of the items after it
pub flat_map-drop : {X : Type 0} (f : X → List ℕ) (xs : List X) (i : ℕ) (x : X)
    → i < length xs
    → x ≡ get_or xs i x
    → flat_map f (drop i xs) ≡ f x ++ flat_map f (drop (i + 1) xs)
flat_map-drop f xs i x lt e =
    let next : suc i ≡ i + 1 = omega arith in
    let cons : drop i xs ≡ x ∷ drop (i + 1) xs =
    drop-cons xs i x lt ∙ ap (λ y. y ∷ drop (suc i) xs) (sym e) ∙ ap (λ (k : ℕ). x ∷ drop k xs) next in
    ap (flat_map f) cons

pub flat_map-drop_all : {X : Type 0} (f : X → List ℕ) (xs : List X) (i : ℕ) → length xs ≤ i → flat_map f (drop i xs) ≡ []
flat_map-drop_all f xs i le = ap (flat_map f) (drop_all i xs le)

-- plain bytes stand for themselves
pub component_text-plain : (bytes plain after : List ℕ) (n : ℕ)
    → bytes ≡ plain ++ after
    → plain ≡ take n bytes
    → component_text (take n bytes) ≡ take n bytes
    → component_text bytes ≡ plain ++ component_text after
component_text-plain bytes plain after n whole front same =
    let itself : component_text plain ≡ plain = ap component_text front ∙ same ∙ sym front in
    ap component_text whole ∙ flat_map-append byte_text plain after ∙ ap (λ l. l ++ component_text after) itself

byte_text-usual : (b : ℕ) → is_usual b ≡ true → byte_text b ≡ 63 ∷ b ∷ []
byte_text-usual b usual = rw usual refl

-- a byte that a release character stands before
pub component_text-released : (bytes after others : List ℕ) (n byte : ℕ)
    → after ≡ drop n bytes
    → after ≡ byte ∷ others
    → (n < length bytes → is_usual (get_or bytes n 0) ≡ true)
    → component_text after ≡ (63 ∷ byte ∷ []) ++ component_text others
component_text-released bytes after others n byte rest cons usual =
    let some : n < length bytes = omega (arith, ap length cons, ap length rest, length-drop n bytes) in
    let at_n : n + 0 ≡ n = omega arith in
    let first : get_or bytes n 0 ≡ byte =
    ap (λ (k : ℕ). get_or bytes k 0) (sym at_n)
    ∙ sym (get_or-drop n bytes 0 0)
    ∙ ap (λ (l : List ℕ). get_or l 0 0) (sym rest ∙ cons) in
    let is : is_usual byte ≡ true = subst (λ b. is_usual b ≡ true) first (usual some) in
    ap component_text cons ∙ ap (λ l. l ++ component_text others) (byte_text-usual byte is)

pub segment_text-parts : (segment : Segment) → segment_text segment ≡ segment.tag ++ (flat_map element_text segment.elements ++ 39 ∷ [])
segment_text-parts segment = append_assoc segment.tag (flat_map element_text segment.elements) (39 ∷ [])

-- the next element, those after it, and the terminator
pub segment_text-next : (elements : List (List (List ℕ))) (i : ℕ) (element : List (List ℕ))
    → i < length elements
    → element ≡ get_or elements i element
    → flat_map element_text (drop i elements) ++ 39 ∷ []
    ≡ element_text element ++ (flat_map element_text (drop (i + 1) elements) ++ 39 ∷ [])
segment_text-next elements i element lt is =
    ap (λ l. l ++ 39 ∷ []) (flat_map-drop element_text elements i element lt is)
    ∙ append_assoc (element_text element) (flat_map element_text (drop (i + 1) elements)) (39 ∷ [])

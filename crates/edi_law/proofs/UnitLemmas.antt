-- Shows that what is read from the units of a message is what is valid in them.
use Rattle.std.proofs.Common.{◌≡◌, ℕ, Bool, true, false, cond, not, ◌&&◌, List, [], ◌∷◌, length, filter, map, inl, inr}
use Rattle.std.proofs.Common.{refl, sym, ap, subst, ◌∙◌, arith}
use Rattle.std.specs.Prelude.{◌==◌, codes, unwrap_or, option_and_then, Decides}
use Rattle.std.specs.List.{list_all, list_any, take_while, AllByRecursion, AllZip}
use Rattle.std.proofs.lemmas.Bool.{cases_Bool, true≢false, and_parts, and_from, not-true, not_from_false}
use Rattle.std.proofs.lemmas.Bool.Decides.{Decides-and, Decides-not, Decides-eqb}
use Rattle.std.proofs.Math.Bool.{and_assoc}
use Rattle.gs1_ids.specs.Digits.{is_key}
use Rattle.gs1_ids.specs.Sscc.{IsSscc, sscc_of}
use Rattle.gs1_ids.proofs.Decided.{Decides-is_key}
use Rattle.edi_base.specs.Seen.{has_twice}
use Rattle.edi_segments.specs.declared.segment.Segment.{Segment}
use Rattle.edi_segments.specs.Segment.{element_at}
use Rattle.edi_envelope.specs.Segments.{component}
use Rattle.edi_messages.specs.Lines.{is_line}
use Rattle.edi_messages.specs.Parts.{line_groups, only}
use Rattle.edi_goods.specs.Units.{units, read_units, head, sscc_in, sscc, sscc_or_none, has_line_outside, is_unit, has_units, has_lines}
use Rattle.edi_law.specs.Lines.{IsLine, NoneTwice}
use Rattle.edi_law.specs.Parts.{HasNone, IsFront, AreUnits, OfLines}
use Rattle.edi_law.specs.Segments.{is_line_item, is_packing, parts_units, says}
use Rattle.edi_law.specs.Units.{AreReadUnits, OfUnits, OfUnitLines, AreLines, NoLineOutside, IsMarked, HasSscc, IsUnit, AreMarked, HasUnits}
use Rattle.edi_law.proofs.Deciding.{Says, Decides-all, Decides-is_some, Says-like, Says-if, Says-when, said_of}
use Rattle.edi_law.proofs.LineLemmas.{Decides-nothing, Decides-line, Refutes-text_twice}
use Rattle.edi_law.proofs.PartLemmas.{front, taken, IsFront-front, front-from_IsFront, cut, cut_is, AreParts-cut}
use Rattle.edi_law.proofs.PartLemmas.{Decides-lines, Decides-none, Says-of_only}

-- the units
units_apart : (s : Segment) → parts_units s ≡ false → is_packing s ≡ false
units_apart s h =
    elim (cases_Bool (is_packing s)) [
      | inl is ↦ let e : true ≡ false = sym (rw is refl) ∙ h in absurd (true≢false e)
      | inr not_ ↦ not_
    ]

units_cut : (segments : List Segment) → units segments ≡ cut is_packing parts_units units_apart segments
units_cut [] = refl
units_cut (s ∷ rest) =
    ap (λ part. cond (is_packing s) ((s ∷ part) ∷ units rest) (units rest)) (taken _ parts_units (λ later. refl) rest)
    ∙ ap (λ parts. cond (is_packing s) ((s ∷ front parts_units rest) ∷ parts) parts) (units_cut rest)

pub AreReadUnits-read_units : (message : List Segment) → AreReadUnits message (read_units message)
AreReadUnits-read_units message = record {
  all = units message;
  are_all = subst (AreUnits message) (sym (units_cut message)) (AreParts-cut is_packing parts_units units_apart message);
  are_read = refl;
}

pub read_units-from_AreReadUnits : (parts : List (List Segment)) (message : List Segment)
    → AreReadUnits message parts
    → read_units message ≡ parts
read_units-from_AreReadUnits parts message h =
    ap (filter (list_any is_line_item))
    (units_cut message ∙ cut_is is_packing parts_units units_apart h.all message h.are_all)
    ∙ sym h.are_read

pub Decides-units : (t : List (List Segment) → Bool) (Are : List (List Segment) → Type 0)
    → ((parts : List (List Segment)) → Decides (t parts) (Are parts))
    → (message : List Segment)
    → Decides (t (read_units message)) (OfUnits Are message)
Decides-units t Are each message = (
  (λ e. record { units = read_units message; are_units = AreReadUnits-read_units message; are = (each (read_units message)).0 e }),
  (λ h. ap t (read_units-from_AreReadUnits h.units message h.are_units) ∙ (each h.units).1 h.are),
)

pub Decides-unit_lines : (t : List (List Segment) → Bool) (Are : List (List Segment) → Type 0)
    → ((groups : List (List Segment)) → Decides (t groups) (Are groups))
    → (message : List Segment)
    → Decides (list_all (λ unit. t (line_groups unit)) (read_units message)) (OfUnitLines Are message)
Decides-unit_lines t Are each =
    Decides-units (list_all (λ unit. t (line_groups unit))) (AllByRecursion (OfLines Are))
    (Decides-all (λ unit. t (line_groups unit)) (OfLines Are) (Decides-lines t Are each))

pub of_units : (Are : List (List Segment) → Type 0) (message : List Segment) → OfUnits Are message → Are (read_units message)
of_units Are message h = subst Are (sym (read_units-from_AreReadUnits h.units message h.are_units)) h.are

pub Decides-each_line : (message : List Segment) → Decides (list_all has_lines (read_units message)) (AreLines message)
Decides-each_line =
    Decides-unit_lines (list_all is_line) _
    (Decides-all is_line (λ group. (number : ℕ) × (gtin : List ℕ) × IsLine group number gtin) Decides-line)

-- the SSCC of a unit
marked_shape : (elements : List (List (List ℕ)))
    → length elements ≡ 2
    → length (element_at elements 1) ≡ 1
    → (qualifier : List (List ℕ)) × (bytes : List ℕ) × (elements ≡ qualifier ∷ ((bytes ∷ []) ∷ []))
marked_shape [] e one = absurd (omega (arith, e))
marked_shape (q ∷ []) e one = absurd (omega (arith, e))
marked_shape (q ∷ [] ∷ []) e one = absurd (omega (arith, one))
marked_shape (q ∷ (bytes ∷ []) ∷ []) e one = (q, bytes, refl)
marked_shape (q ∷ (bytes ∷ other ∷ more) ∷ []) e one = absurd (omega (arith, one))
marked_shape (q ∷ second ∷ third ∷ more) e one = absurd (omega (arith, e))

abbrev component_in : List (List (List ℕ)) → List ℕ
component_in elements = component (record { tag = []; elements = elements }) 1 0

Says-marked : (gin : Segment) → Says (sscc_in gin) (λ digits. IsMarked digits gin)
Says-marked gin =
    let text = component gin 1 0 in
    Says-like (sscc_in gin)
    (λ digits. ((length gin.elements ≡ 2) × (length (element_at gin.elements 1) ≡ 1)) × (IsSscc text × (text ≡ digits)))
    (λ digits. IsMarked digits gin)
    (λ digits h.
    let shape = marked_shape gin.elements h.0.0 h.0.1 in
    let same : shape.1 ≡ digits = sym (ap component_in shape.2) ∙ h.1.1 in
    record { qualifier = shape.0; place = shape.2 ∙ ap (λ bytes. shape.0 ∷ ((bytes ∷ []) ∷ [])) same; right = subst IsSscc h.1.1 h.1.0 })
    (λ digits h.
    let text_is : text ≡ digits = ap component_in h.place in
    ((ap length h.place, ap (λ elements. length (element_at elements 1)) h.place), (subst IsSscc (sym text_is) h.right, text_is)))
    (Says-when _ (sscc_of text) _ _
    (Decides-and _ _ (Decides-eqb (length gin.elements) 2) (Decides-eqb (length (element_at gin.elements 1)) 1))
    (Says-if (is_key 18 text) (IsSscc text) text (Decides-is_key 18 text)))

head_front : (unit : List Segment) → head unit ≡ front is_line_item unit
head_front unit = taken _ is_line_item (λ segment. refl) unit

pub Says-sscc : (unit : List Segment) → Says (sscc unit) (HasSscc unit)
Says-sscc unit digits =
    let read = Says-of_only (says (codes "GIN") (codes "BJ")) sscc_in IsMarked Says-marked in (
      (λ e. record {
        head = head unit;
        is_head =
            subst (λ part. IsFront is_line_item part unit) (sym (head_front unit)) (IsFront-front is_line_item unit);
        gin = (read (head unit) digits).0 e;
      }),
      (λ h. ap (λ part. option_and_then sscc_in (only (filter (says (codes "GIN") (codes "BJ")) part)))
          (head_front unit ∙ front-from_IsFront is_line_item h.head unit h.is_head)
          ∙ (read h.head digits).1 h.gin),
    )

-- a unit
abbrev IsUnitBy : Segment → List Segment → Type 0
IsUnitBy cps unit = (component cps 0 0 ≡ [] → ⊥) × ((digits : List ℕ) × HasSscc unit digits)

Decides-unit_by : (cps : Segment) (body : List Segment) → Decides (is_unit (cps ∷ body)) (IsUnitBy cps (cps ∷ body))
Decides-unit_by cps body =
    Decides-and _ _ (Decides-not (length (component cps 0 0) == 0) (Decides-nothing (component cps 0 0)))
    (Decides-is_some (sscc (cps ∷ body)) (HasSscc (cps ∷ body)) (Says-sscc (cps ∷ body)))

unit_there : (unit : List Segment) → is_unit unit ≡ true → IsUnit unit (sscc_or_none unit)
unit_there [] e = absurd (true≢false (sym e))
unit_there (cps ∷ body) e =
    let h = (Decides-unit_by cps body).0 e in
    record {
      cps = cps;
      body = body;
      place = refl;
      identifier = h.0;
      sscc_is = said_of (sscc (cps ∷ body)) (HasSscc (cps ∷ body)) [] (Says-sscc (cps ∷ body)) (and_parts _ _ e).1;
    }

is_unit-from_IsUnit : (unit : List Segment) (digits : List ℕ) → IsUnit unit digits → is_unit unit ≡ true
is_unit-from_IsUnit unit digits h =
    ap is_unit h.place
    ∙ (Decides-unit_by h.cps h.body).1 (h.identifier, (digits, subst (λ segments. HasSscc segments digits) h.place h.sscc_is))

pub sscc-from_HasSscc : (unit : List Segment) (digits : List ℕ) → HasSscc unit digits → sscc_or_none unit ≡ digits
sscc-from_HasSscc unit digits h = ap (λ o. unwrap_or o []) ((Says-sscc unit digits).1 h)

marked_there : (parts : List (List Segment)) → list_all is_unit parts ≡ true → AllZip IsUnit parts (map sscc_or_none parts)
marked_there [] e = tt
marked_there (unit ∷ parts) e =
    let both = and_parts (is_unit unit) (list_all is_unit parts) e in (unit_there unit both.0, marked_there parts both.1)

marked_units : (parts : List (List Segment)) (ssccs : List (List ℕ))
    → AllZip IsUnit parts ssccs
    → (list_all is_unit parts ≡ true) × (map sscc_or_none parts ≡ ssccs)
marked_units [] [] h = (refl, refl)
marked_units [] (digits ∷ ssccs) h = absurd h
marked_units (unit ∷ parts) [] h = absurd h
marked_units (unit ∷ parts) (digits ∷ ssccs) h =
    let later = marked_units parts ssccs h.1 in (
      and_from (is_unit unit) (list_all is_unit parts) (is_unit-from_IsUnit unit digits h.0) later.0,
      ap (λ one. one ∷ map sscc_or_none parts) (sscc-from_HasSscc unit digits h.0.sscc_is) ∙ ap (λ others. digits ∷ others) later.1,
    )

abbrev are_marked : List (List Segment) → Bool
are_marked parts = list_all is_unit parts && not (has_twice (map sscc_or_none parts))

Decides-marked : (parts : List (List Segment)) → Decides (are_marked parts) (AreMarked parts)
Decides-marked parts = (
  (λ e. let both = and_parts (list_all is_unit parts) _ e in
      record {
        ssccs = map sscc_or_none parts;
        marked = marked_there parts both.0;
        apart = (Refutes-text_twice (map sscc_or_none parts)).0 (not-true _ both.1);
      }),
  (λ h. let both = marked_units parts h.ssccs h.marked in
      and_from _ _ both.0 (not_from_false _ ((Refutes-text_twice (map sscc_or_none parts)).1 (subst NoneTwice (sym both.1) h.apart)))),
)

-- a line outside the units
Decides-outside : (message : List Segment) → Decides (not (has_line_outside message)) (NoLineOutside message)
Decides-outside message =
    let outside = take_while (λ segment. not (is_packing segment)) message in
    let same : outside ≡ front is_packing message = taken _ is_packing (λ segment. refl) message in (
      (λ e. record {
        outside = outside;
        is_front = subst (λ part. IsFront is_packing part message) (sym same) (IsFront-front is_packing message);
        no_line = (Decides-none is_line_item outside).0 e;
      }),
      (λ h. (Decides-none is_line_item outside).1
          (subst (HasNone is_line_item) (sym (same ∙ front-from_IsFront is_packing h.outside message h.is_front)) h.no_line)),
    )

pub Decides-has_units : (message : List Segment) → Decides (has_units message) (HasUnits message)
Decides-has_units message =
    let parts = read_units message in
    let both = Decides-and (not (has_line_outside message)) (are_marked parts) (Decides-outside message)
    (Decides-units are_marked AreMarked Decides-marked message) in
    let same = and_assoc (not (has_line_outside message)) (list_all is_unit parts) (not (has_twice (map sscc_or_none parts))) in
    ((λ e. let h = both.0 (sym same ∙ e) in record { outside = h.0; units = h.1 }), (λ h. same ∙ both.1 (h.outside, h.units)))

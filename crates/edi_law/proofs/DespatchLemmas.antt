-- Shows that the conditions of a despatch advice, and the advice that is read, are those of the relations.
use Rattle.std.proofs.Common.{◌≡◌, ℕ, not, ◌&&◌, List, [], ◌∷◌, map, Option, Some, None, Ok, Err, ◌⊎◌, inl, inr, refl, sym, ap, subst, ◌∙◌}
use Rattle.std.specs.Prelude.{◌↔◌, codes, is_some, unwrap_or, option_and_then, Decides}
use Rattle.std.specs.List.{list_all, AllByRecursion, AllZip}
use Rattle.std.proofs.lemmas.Bool.{and_parts, and_from}
use Rattle.std.proofs.lemmas.Bool.Decides.{Decides-and}
use Rattle.edi_segments.specs.declared.segment.Segment.{Segment}
use Rattle.edi_envelope.specs.declared.interchange.RawMessage.{RawMessage}
use Rattle.edi_messages.specs.Header.{party}
use Rattle.edi_messages.specs.Lines.{gtin}
use Rattle.edi_messages.specs.Parts.{line_groups, header, only}
use Rattle.edi_messages.specs.References.{has_reference, reference, order, order_named, group_order, group_line}
use Rattle.edi_messages.specs.References as references
use Rattle.edi_messages.specs.declared.fault.MessageFault.{MessageFault}
use Rattle.edi_messages.specs.declared.fault.MessageFault.TheVariants as faults
use Rattle.edi_goods.specs.Despatch.{despatched, inherits, has_header_reference_or_none}
use Rattle.edi_goods.specs.Despatch.{is_reference_or_inherits, has_reference_or_inherits}
use Rattle.edi_goods.specs.Despatch.{has_references, order_of_line, header_order, holds, line_of, unit_from, contents_of}
use Rattle.edi_goods.specs.Despatch.{despatch_of}
use Rattle.edi_goods.specs.Parties.{buyer}
use Rattle.edi_goods.specs.Units.{read_units}
use Rattle.edi_goods.specs.declared.despatch.Despatch.{Despatch}
use Rattle.edi_goods.specs.declared.despatch.DespatchLine.{DespatchLine}
use Rattle.edi_goods.specs.declared.despatch.Unit.{Unit as DespatchUnit}
use Rattle.edi_law.specs.Despatch.{Inherits, IsOfOrder, HasReferenceOrInherits, IsRightDespatch}
use Rattle.edi_law.specs.Despatch.{IsDespatchLine, IsDespatchUnit, IsDespatch}
use Rattle.edi_law.specs.Header.{NamesParty}
use Rattle.edi_law.specs.Lines.{IsLine, HasQuantity}
use Rattle.edi_law.specs.Lowest.{IsLowest, IsFaultless}
use Rattle.edi_law.specs.Parts.{HasNone, OfLines, OfOnly, OneOrNone}
use Rattle.edi_law.specs.References.{is_rff_on, NamesOrder, NamesLineOrNone}
use Rattle.edi_law.specs.Units.{OfUnitLines, HasSscc, IsUnit, AreMarked}
use Rattle.edi_law.proofs.Deciding.{Refutes, Refutes-not, Refutes-false, Decides-all, Decides-is_some, said_of, unwrap_of}
use Rattle.edi_law.proofs.GoodsLemmas.{Decides-parties, buyer-from_NamesBuyer, NamesBuyer-buyer, zip_is}
use Rattle.edi_law.proofs.HeaderLemmas.{Decides-type, Decides-begins, Decides-function, Decides-dated, Decides-party}
use Rattle.edi_law.proofs.HeaderLemmas.{Says-party, HasBeginning-begins_as, begins_as-from_HasBeginning, document_number-from_HasBeginning}
use Rattle.edi_law.proofs.LineLemmas.{article-from_IsLine, Says-quantity_of}
use Rattle.edi_law.proofs.LowestLemmas.{fault_is_lowest, content_is_faultless}
use Rattle.edi_law.proofs.PartLemmas.{AreLineGroups-line_groups, line_groups-from_AreLineGroups, of_lines, none_passes}
use Rattle.edi_law.proofs.PartLemmas.{Says-only, Decides-none, only_some, at_header, IsHeader-header, found-from_OneOrNone}
use Rattle.edi_law.proofs.PartLemmas.{there-from_OneOrNone, Decides-one_or_none}
use Rattle.edi_law.proofs.ReferenceLemmas.{Says-order_named, Decides-line_or_none, NamesLine-group_line, group_line-from_NamesLine}
use Rattle.edi_law.proofs.SummaryLemmas.{Decides-controlled, Refutes-no_line}
use Rattle.edi_law.proofs.UnitLemmas.{Decides-unit_lines, Decides-each_line, Decides-has_units, of_units}
use Rattle.edi_law.proofs.UnitLemmas.{AreReadUnits-read_units, read_units-from_AreReadUnits, sscc-from_HasSscc}

-- the reference of the header
order_is : (message : List Segment) (o : Option (List ℕ)) → Inherits message o → order message ≡ o
order_is message o h =
    found-from_OneOrNone is_rff_on order_named NamesOrder Says-order_named (header message) o
    (at_header (λ part. OneOrNone is_rff_on NamesOrder part o) message h)

inherits_is : (message : List Segment) (o : Option (List ℕ)) → Inherits message o → inherits message ≡ is_some o
inherits_is message o h =
    there-from_OneOrNone is_rff_on order_named NamesOrder Says-order_named (header message) o
    (at_header (λ part. OneOrNone is_rff_on NamesOrder part o) message h)

Decides-inherited : (message : List Segment) → Decides (has_header_reference_or_none message) ((o : Option (List ℕ)) × Inherits message o)
Decides-inherited message =
    let d = Decides-one_or_none is_rff_on order_named NamesOrder Says-order_named (header message) in (
      (λ e. let h = d.0 e in (h.0, record { header = header message; is_header = IsHeader-header message; is = h.1 })),
      (λ h. d.1 (h.0, at_header (λ part. OneOrNone is_rff_on NamesOrder part h.0) message h.1)),
    )

-- the references of the groups
Decides-right : (rff : Segment)
    → Decides (references.is_order_reference rff) (((number : List ℕ) × NamesOrder number rff) × NamesLineOrNone rff)
Decides-right rff =
    Decides-and _ _ (Decides-is_some (order_named rff) (λ number. NamesOrder number rff) (Says-order_named rff))
    (Decides-line_or_none rff)

Decides-there : (o : Option (List ℕ)) → Decides (is_some o) ((number : List ℕ) × (o ≡ Some number))
Decides-there o = Decides-is_some o (λ number. o ≡ Some number) (λ number. ((λ e. e), (λ e. e)))

one_referred : (o : Option (List ℕ)) (group : List Segment) (rff : Segment)
    → reference group ≡ Some rff
    → Decides (references.is_order_reference rff) (HasReferenceOrInherits o group)
one_referred o group rff there = (
  (λ e. inl (record { segment = rff; is_only = (Says-only is_rff_on group rff).0 there; is = (Decides-right rff).0 e })),
  (λ h. elim h [
    | inl one ↦
        let same : Some one.segment ≡ Some rff = sym ((Says-only is_rff_on group one.segment).1 one.is_only) ∙ there in
        let is : one.segment ≡ rff = cc in
        ap references.is_order_reference (sym is) ∙ (Decides-right one.segment).1 one.is
    | inr none ↦ absurd (only_some is_rff_on group rff ((Says-only is_rff_on group rff).0 there) none.0)
  ]),
)

none_referred : (o : Option (List ℕ)) (group : List Segment)
    → reference group ≡ None
    → Decides (not (has_reference group) && is_some o) (HasReferenceOrInherits o group)
none_referred o group there =
    let d = Decides-and (not (has_reference group)) (is_some o) (Decides-none is_rff_on group) (Decides-there o) in (
      (λ e. inr (d.0 e)),
      (λ h. elim h [
        | inl one ↦ let some : None ≡ Some one.segment = sym there ∙ (Says-only is_rff_on group one.segment).1 one.is_only in absurd cc
        | inr none ↦ d.1 none
      ]),
    )

referred_by : (o : Option (List ℕ)) (group : List Segment) (found : Option Segment)
    → reference group ≡ found
    → Decides (is_reference_or_inherits (has_reference group) (is_some o) found) (HasReferenceOrInherits o group)
referred_by o group None there = none_referred o group there
referred_by o group (Some rff) there = one_referred o group rff there

Decides-has_reference_or_inherits : (o : Option (List ℕ)) (group : List Segment)
    → Decides (has_reference_or_inherits (is_some o) group) (HasReferenceOrInherits o group)
Decides-has_reference_or_inherits o group = referred_by o group (reference group) refl

Decides-unit_references : (o : Option (List ℕ)) (message : List Segment)
    → Decides (list_all (has_references (is_some o)) (read_units message))
    (OfUnitLines (AllByRecursion (HasReferenceOrInherits o)) message)
Decides-unit_references o =
    Decides-unit_lines (list_all (has_reference_or_inherits (is_some o))) (AllByRecursion (HasReferenceOrInherits o))
    (Decides-all (has_reference_or_inherits (is_some o)) (HasReferenceOrInherits o) (Decides-has_reference_or_inherits o))

Decides-references : (message : List Segment)
    → Decides (has_header_reference_or_none message && list_all (has_references (inherits message)) (read_units message))
    ((o : Option (List ℕ)) × Inherits message o × OfUnitLines (AllByRecursion (HasReferenceOrInherits o)) message)
Decides-references message = (
  (λ e.
      let both = and_parts (has_header_reference_or_none message) _ e in
      let h = (Decides-inherited message).0 both.0 in (
        h.0,
        h.1,
        (Decides-unit_references h.0 message).0
            (ap (λ there. list_all (has_references there) (read_units message)) (sym (inherits_is message h.0 h.1))
            ∙ both.1),
      )),
  (λ h. and_from (has_header_reference_or_none message) _ ((Decides-inherited message).1 (h.0, h.1))
      (ap (λ there. list_all (has_references there) (read_units message)) (inherits_is message h.0 h.1)
      ∙ (Decides-unit_references h.0 message).1 h.2)),
)

-- each condition
refutes : (m : RawMessage) (fault : MessageFault) → Refutes (holds fault m) (IsRightDespatch m fault)
refutes m faults.MessageType = Refutes-not _ (Decides-type (codes "DESADV") m)
refutes m faults.Beginning = Refutes-not _ (Decides-begins (codes "351") m.segments)
refutes m faults.Function = Refutes-not _ (Decides-function m.segments (codes "9") (λ e. cc))
refutes m faults.Date = Refutes-not _ (Decides-dated m.segments)
refutes m faults.Parties = Refutes-not _ (Decides-parties m.segments)
refutes m faults.Line = Refutes-not _ (Decides-each_line m.segments)
refutes m faults.Quantity =
    Refutes-not _ (Decides-unit_lines (list_all (λ group. is_some (despatched group))) _
    (Decides-all (λ group. is_some (despatched group)) (λ group. (quantity : ℕ) × HasQuantity (codes "12") 1 group quantity)
    (λ group. Decides-is_some (despatched group) (HasQuantity (codes "12") 1 group) (Says-quantity_of (codes "12") 1 group))) m.segments)
refutes m faults.Reference = Refutes-not _ (Decides-references m.segments)
refutes m faults.Unit = Refutes-not _ (Decides-has_units m.segments)
refutes m faults.Control = Refutes-not _ (Decides-controlled m.segments)
refutes m faults.WithoutLines = Refutes-no_line m.segments
refutes m other = Refutes-false

-- what a line says
order_of_none : (group : List Segment) → HasNone is_rff_on group → group_order group ≡ None
order_of_none group none = ap (λ passing. option_and_then order_named (only passing)) (none_passes is_rff_on group none)

order_of_one : (group : List Segment) (number : List ℕ) → OfOnly is_rff_on group (NamesOrder number) → group_order group ≡ Some number
order_of_one group number h =
    ap (option_and_then order_named) ((Says-only is_rff_on group h.segment).1 h.is_only)
    ∙ (Says-order_named h.segment number).1 h.is

of_order_is : (o : Option (List ℕ)) (group : List Segment) (number : List ℕ)
    → IsOfOrder o group number
    → order_of_line (unwrap_or o []) group ≡ number
of_order_is o group number (inl one) = ap (λ found. unwrap_or found (unwrap_or o [])) (order_of_one group number one)
of_order_is o group number (inr h) =
    ap (λ found. unwrap_or found (unwrap_or o [])) (order_of_none group h.0) ∙ ap (λ found. unwrap_or found []) h.1

of_order_there : (o : Option (List ℕ)) (group : List Segment) → HasReferenceOrInherits o group
    → (number : List ℕ) × IsOfOrder o group number
of_order_there o group (inl h) = (h.is.0.0, inl (record { segment = h.segment; is_only = h.is_only; is = h.is.0.1 }))
of_order_there o group (inr h) = (h.1.0, inr (h.0, h.1.1))

line_or_none : (o : Option (List ℕ)) (group : List Segment)
    → HasReferenceOrInherits o group
    → HasNone is_rff_on group ⊎ OfOnly is_rff_on group NamesLineOrNone
line_or_none o group (inl h) = inr (record { segment = h.segment; is_only = h.is_only; is = h.is.1 })
line_or_none o group (inr h) = inl h.0

abbrev line_by : Option (List ℕ) → List Segment → DespatchLine
line_by o group = line_of (unwrap_or o []) group

lines_there : (o : Option (List ℕ)) (groups : List (List Segment))
    → AllByRecursion (λ group. (n : ℕ) × (gtin : List ℕ) × IsLine group n gtin) groups
    → AllByRecursion (λ group. (n : ℕ) × HasQuantity (codes "12") 1 group n) groups
    → AllByRecursion (HasReferenceOrInherits o) groups → AllZip (IsDespatchLine o) groups (map (line_by o) groups)
lines_there o [] line quantity referred = tt
lines_there o (group ∷ groups) line quantity referred =
    let of_order = of_order_there o group referred.0 in (
      record {
        order_is = subst (IsOfOrder o group) (sym (of_order_is o group of_order.0 of_order.1)) of_order.1;
        order_line_is = NamesLine-group_line group (line_or_none o group referred.0);
        number = line.0.0;
        line_is = subst (IsLine group line.0.0) (sym (article-from_IsLine group line.0.0 line.0.1 line.0.2)) line.0.2;
        quantity_is =
            subst (HasQuantity (codes "12") 1 group)
            (unwrap_of (despatched group) (HasQuantity (codes "12") 1 group) 0 quantity.0.0
            (Says-quantity_of (codes "12") 1 group) quantity.0.1) quantity.0.1;
      },
      lines_there o groups line.1 quantity.1 referred.1,
    )

abbrev despatch_line : List ℕ → Option ℕ → List ℕ → ℕ → DespatchLine
despatch_line order_ order_line article quantity = record { order = order_; order_line = order_line; gtin = article; quantity = quantity }

line_is : (o : Option (List ℕ)) (group : List Segment) (one : DespatchLine) → IsDespatchLine o group one → line_by o group ≡ one
line_is o group one h =
    let order_line = group_line group in
    let article = unwrap_or (gtin group) [] in
    let quantity = unwrap_or (despatched group) 0 in
    ap (λ n. despatch_line n order_line article quantity) (of_order_is o group one.order h.order_is)
    ∙ ap (λ n. despatch_line one.order n article quantity) (group_line-from_NamesLine group one.order_line h.order_line_is)
    ∙ ap (λ g. despatch_line one.order one.order_line g quantity) (article-from_IsLine group h.number one.gtin h.line_is)
    ∙ ap (λ q. despatch_line one.order one.order_line one.gtin q)
    (sym (unwrap_of (despatched group) (HasQuantity (codes "12") 1 group) 0 one.quantity
    (Says-quantity_of (codes "12") 1 group) h.quantity_is))

-- what a unit says
abbrev unit_by : Option (List ℕ) → List Segment → DespatchUnit
unit_by o unit = unit_from (unwrap_or o []) unit

units_there : (o : Option (List ℕ)) (parts : List (List Segment)) (ssccs : List (List ℕ))
    → AllByRecursion (OfLines (AllByRecursion (λ group. (n : ℕ) × (gtin : List ℕ) × IsLine group n gtin))) parts
    → AllByRecursion (OfLines (AllByRecursion (λ group. (n : ℕ) × HasQuantity (codes "12") 1 group n))) parts
    → AllByRecursion (OfLines (AllByRecursion (HasReferenceOrInherits o))) parts
    → AllZip IsUnit parts ssccs → AllZip (IsDespatchUnit o) parts (map (unit_by o) parts)
units_there o [] ssccs line quantity referred marked = tt
units_there o (unit ∷ parts) [] line quantity referred marked = absurd marked
units_there o (unit ∷ parts) (digits ∷ ssccs) line quantity referred marked = (
  record {
    sscc_is = subst (HasSscc unit) (sym (sscc-from_HasSscc unit digits marked.0.sscc_is)) marked.0.sscc_is;
    lines_are = record {
      groups = line_groups unit;
      are_groups = AreLineGroups-line_groups unit;
      are = lines_there o (line_groups unit) (of_lines _ unit line.0) (of_lines _ unit quantity.0) (of_lines _ unit referred.0);
    };
  },
  units_there o parts ssccs line.1 quantity.1 referred.1 marked.1,
)

abbrev despatch_unit : List ℕ → List DespatchLine → DespatchUnit
despatch_unit digits lines = record { sscc = digits; lines = lines }

unit_is : (o : Option (List ℕ)) (unit : List Segment) (one : DespatchUnit) → IsDespatchUnit o unit one → unit_by o unit ≡ one
unit_is o unit one h =
    let given = h.lines_are in
    ap (λ digits. despatch_unit digits (map (line_by o) (line_groups unit))) (sscc-from_HasSscc unit one.sscc h.sscc_is)
    ∙ ap (λ lines. despatch_unit one.sscc lines)
    (ap (map (line_by o)) (line_groups-from_AreLineGroups given.groups unit given.are_groups)
    ∙ zip_is (line_by o) (IsDespatchLine o) (line_is o) given.groups one.lines given.are)

-- what the advice says
contents_there : (m : RawMessage) → IsFaultless (IsRightDespatch m) → IsDespatch m.segments (contents_of m.segments)
contents_there m right =
    let message = m.segments in
    let beginning = right faults.Beginning in
    let parties = right faults.Parties in
    let reference_ = right faults.Reference in
    let o = reference_.0 in
    let marked = of_units AreMarked message (right faults.Unit).units in
    let there = units_there o (read_units message) marked.ssccs (of_units _ message (right faults.Line))
    (of_units _ message (right faults.Quantity)) (of_units _ message reference_.2) marked.marked in
    record {
      number_is = HasBeginning-begins_as (codes "351") message (begins_as-from_HasBeginning (codes "351") message beginning.0 beginning.1);
      buyer_is = NamesBuyer-buyer message parties.0.0 parties.0.1;
      supplier_is =
          said_of (party (codes "SU") message) (NamesParty (codes "SU") message) [] (Says-party (codes "SU") message)
          ((Decides-party (codes "SU") message).1 parties.1);
      inherited = o;
      inherited_is = reference_.1;
      units_are = record {
        units = read_units message;
        are_units = AreReadUnits-read_units message;
        are =
            subst (λ found. AllZip (IsDespatchUnit o) (read_units message) (map (unit_by found) (read_units message)))
            (sym (order_is message o reference_.1)) there;
      };
    }

abbrev despatch_from : List ℕ → Option (List ℕ) → List ℕ → List DespatchUnit → Despatch
despatch_from number buyer_ supplier units = record { number = number; buyer = buyer_; supplier = supplier; units = units }

units_are : (message : List Segment) (despatch : Despatch)
    → IsDespatch message despatch
    → map (unit_from (header_order message)) (read_units message) ≡ despatch.units
units_are message despatch h =
    let given = h.units_are in
    ap (λ found. map (unit_by found) (read_units message)) (order_is message h.inherited h.inherited_is)
    ∙ ap (map (unit_by h.inherited)) (read_units-from_AreReadUnits given.units message given.are_units)
    ∙ zip_is (unit_by h.inherited) (IsDespatchUnit h.inherited) (unit_is h.inherited) given.units despatch.units given.are

contents_are : (message : List Segment) (despatch : Despatch) → IsDespatch message despatch → contents_of message ≡ despatch
contents_are message despatch h =
    let su = unwrap_or (party (codes "SU") message) [] in
    let units = map (unit_from (header_order message)) (read_units message) in
    let supplier = unwrap_of (party (codes "SU") message) (NamesParty (codes "SU") message) [] despatch.supplier
    (Says-party (codes "SU") message) h.supplier_is in
    ap (λ n. despatch_from n (buyer message) su units) (document_number-from_HasBeginning (codes "351") message despatch.number h.number_is)
    ∙ ap (λ b. despatch_from despatch.number b su units) (buyer-from_NamesBuyer message despatch.buyer h.buyer_is)
    ∙ ap (λ s. despatch_from despatch.number despatch.buyer s units) (sym supplier)
    ∙ ap (λ us. despatch_from despatch.number despatch.buyer despatch.supplier us) (units_are message despatch h)

pub fault_law : (m : RawMessage) (fault : MessageFault) → (despatch_of m ≡ Err fault) ↔ IsLowest (IsRightDespatch m) fault
unfolding despatch_of
fault_law m fault = fault_is_lowest (λ f. holds f m) (IsRightDespatch m) (λ f lower. refutes m f) refl
    (contents_of m.segments) fault

pub despatch_law : (m : RawMessage) (despatch : Despatch)
    → (despatch_of m ≡ Ok despatch) ↔ (IsFaultless (IsRightDespatch m) × IsDespatch m.segments despatch)
unfolding despatch_of
despatch_law m despatch =
    let law = content_is_faultless (λ f. holds f m) (IsRightDespatch m) (λ f lower. refutes m f) refl
    (contents_of m.segments) despatch in (
      (λ h. let both = law.0 h in (both.0, subst (IsDespatch m.segments) both.1 (contents_there m both.0))),
      (λ h. law.1 (h.0, contents_are m.segments despatch h.1)),
    )

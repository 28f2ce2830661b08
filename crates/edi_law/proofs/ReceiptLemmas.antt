-- Shows that the conditions of a receiving advice, and the advice that is read, are those of the relations.
use Rattle.std.proofs.Common.{◌≡◌, ◌⊎◌, inl, inr, ℕ, ◌<◌, Bool, true, false, ◌&&◌, ◌||◌, List, []}
use Rattle.std.proofs.Common.{◌∷◌, map, Option, Ok, Err, refl, sym, ap, subst, ◌∙◌, arith}
use Rattle.std.specs.Prelude.{◌↔◌, codes, is_some, unwrap_or, Decides}
use Rattle.std.specs.List.{list_all, AllByRecursion, AllZip}
use Rattle.std.proofs.lemmas.Bool.{and_parts, and_from}
use Rattle.std.proofs.lemmas.Bool.Decides.{Decides-and, Decides-or}
use Rattle.std.specs.Str.{bytes_eq}
use Rattle.edi_segments.specs.declared.segment.Segment.{Segment}
use Rattle.edi_envelope.specs.declared.interchange.RawMessage.{RawMessage}
use Rattle.edi_messages.specs.Fault.{number}
use Rattle.edi_messages.specs.Header.{party}
use Rattle.edi_messages.specs.Lines.{amount, quantity_of}
use Rattle.edi_messages.specs.Parts.{line_groups}
use Rattle.edi_messages.specs.declared.fault.MessageFault.{MessageFault}
use Rattle.edi_messages.specs.declared.fault.MessageFault.TheVariants as faults
use Rattle.edi_goods.specs.Parties.{buyer}
use Rattle.edi_goods.specs.Receipt.{accepted, returned, destroyed, is_once_or_none, is_received, line_of, lines_in_unit}
use Rattle.edi_goods.specs.Receipt.{has_function, replaces, has_sums, has_quantities, holds, unit_from, contents_of, receipt_of}
use Rattle.edi_goods.specs.Units.{read_units}
use Rattle.edi_goods.specs.declared.receipt.Receipt.{Receipt}
use Rattle.edi_goods.specs.declared.receipt.ReceiptLine.{ReceiptLine}
use Rattle.edi_goods.specs.declared.receipt.ReceiptUnit.{ReceiptUnit}
use Rattle.edi_law.specs.Header.{HasFunction, NamesParty}
use Rattle.edi_law.specs.Lines.{IsLine, IsAmount}
use Rattle.edi_law.specs.Lowest.{IsLowest, IsFaultless}
use Rattle.edi_law.specs.Parts.{OfLines}
use Rattle.edi_law.specs.Receipt.{HasFunctionOf, HasKind, HasReceived, IsReceiptLine}
use Rattle.edi_law.specs.Receipt.{AreWithin, AreReceived, IsRightReceipt, IsReceiptUnit, IsReceipt}
use Rattle.edi_law.specs.Segments.{says}
use Rattle.edi_law.specs.Units.{OfUnits, AreLines, HasSscc, IsUnit, AreMarked}
use Rattle.edi_law.proofs.Deciding.{Refutes, Refutes-not, Refutes-false, said_of, unwrap_of}
use Rattle.edi_law.proofs.GoodsLemmas.{Decides-parties, buyer-from_NamesBuyer, NamesBuyer-buyer, zip_is}
use Rattle.edi_law.proofs.HeaderLemmas.{Decides-type, Decides-begins, Decides-function, Decides-dated, Decides-party}
use Rattle.edi_law.proofs.HeaderLemmas.{function-from_HasFunction}
use Rattle.edi_law.proofs.HeaderLemmas.{Says-party, HasBeginning-begins_as, begins_as-from_HasBeginning, document_number-from_HasBeginning}
use Rattle.edi_law.proofs.LineLemmas.{article-from_IsLine, Says-amount}
use Rattle.edi_law.proofs.LowestLemmas.{fault_is_lowest, content_is_faultless}
use Rattle.edi_law.proofs.PartLemmas.{AreLineGroups-line_groups, line_groups-from_AreLineGroups, of_lines}
use Rattle.edi_law.proofs.PartLemmas.{found-from_OneOrNone, OneOrNone-found, Decides-one_or_none}
use Rattle.edi_law.proofs.SumLemmas.{Decides-within}
use Rattle.edi_law.proofs.SummaryLemmas.{Decides-controlled, Refutes-no_line}
use Rattle.edi_law.proofs.UnitLemmas.{Decides-each_line, Decides-has_units, of_units, AreReadUnits-read_units}
use Rattle.edi_law.proofs.UnitLemmas.{read_units-from_AreReadUnits, sscc-from_HasSscc}

-- the function
Decides-has_function : (message : List Segment)
    → Decides (has_function message) ((replaces : Bool) × HasFunctionOf replaces message)
Decides-has_function message =
    let either = Decides-or _ _ (Decides-function message (codes "9") (λ e. cc)) (Decides-function message (codes "5") (λ e. cc)) in (
      (λ e. elim (either.0 e) [ inl nine ↦ (false, nine) | inr five ↦ (true, five) ]),
      (λ h. either.1 (either_of h.0 h.1)),
    )
  where
    either_of : (replaces : Bool) → HasFunctionOf replaces message
        → HasFunction message (codes "9") ⊎ HasFunction message (codes "5")
    either_of false nine = inl nine
    either_of true five = inr five

replaces_is : (message : List Segment) (said : Bool) → HasFunctionOf said message → replaces message ≡ said
replaces_is message false nine = ap (λ code. bytes_eq code (codes "5")) (function-from_HasFunction message (codes "9") nine)
replaces_is message true five = (Decides-function message (codes "5") (λ e. cc)).1 five

replaces_there : (message : List Segment) → (said : Bool) × HasFunctionOf said message → HasFunctionOf (replaces message) message
replaces_there message (said, h) = subst (λ said. HasFunctionOf said message) (sym (replaces_is message said h)) h

-- the quantities of a group
module _ (kind : List ℕ) (group : List Segment) where
  abbrev is_kind : Segment → Bool
  is_kind = says (codes "QTY") kind

  Decides-kind : Decides (is_once_or_none kind group) ((o : Option ℕ) × HasKind kind group o)
  Decides-kind = Decides-one_or_none is_kind (amount 0) (IsAmount 0) (Says-amount 0) group

  kind_there : is_once_or_none kind group ≡ true → HasKind kind group (quantity_of kind 0 group)
  kind_there e = let h = Decides-kind.0 e in OneOrNone-found is_kind (amount 0) (IsAmount 0) (Says-amount 0) group h.0 h.1

  kind_is : (o : Option ℕ) → HasKind kind group o → quantity_of kind 0 group ≡ o
  kind_is o h = found-from_OneOrNone is_kind (amount 0) (IsAmount 0) (Says-amount 0) group o h

received_there : (group : List Segment) → is_received group ≡ true → HasReceived group (accepted group) (returned group) (destroyed group)
received_there group e =
    let some = and_parts _ _ e in
    let third = and_parts _ _ some.0 in
    let both = and_parts _ _ third.0 in
    record {
      accepted_is = kind_there (codes "194") group both.0;
      returned_is = kind_there (codes "195") group both.1;
      destroyed_is = kind_there (codes "196") group third.1;
      some = some.1;
    }

received_is : (group : List Segment) (a r d : Option ℕ) → HasReceived group a r d → is_received group ≡ true
received_is group a r d h =
    let some : (is_some (accepted group) || is_some (returned group) || is_some (destroyed group)) ≡ true =
    rw (
      kind_is (codes "194") group a h.accepted_is,
      kind_is (codes "195") group r h.returned_is,
      kind_is (codes "196") group d h.destroyed_is,
    ) h.some in
    and_from _ _
    (and_from _ _
    (and_from _ _ ((Decides-kind (codes "194") group).1 (a, h.accepted_is)) ((Decides-kind (codes "195") group).1 (r, h.returned_is)))
    ((Decides-kind (codes "196") group).1 (d, h.destroyed_is)))
    some

abbrev receipt_line : List ℕ → ℕ → ℕ → ℕ → ReceiptLine
receipt_line article a r d = record { gtin = article; accepted = a; returned = r; destroyed = d }

line_is : (group : List Segment) (line : ReceiptLine) → IsReceiptLine group line → line_of group ≡ line
line_is group line h =
    let a = unwrap_or (accepted group) 0 in
    let r = unwrap_or (returned group) 0 in
    let d = unwrap_or (destroyed group) 0 in
    let of_none = λ (o : Option ℕ). unwrap_or o 0 in
    ap (λ g. receipt_line g a r d) (article-from_IsLine group h.number line.gtin h.line_is)
    ∙ ap (λ n. receipt_line line.gtin n r d) (ap of_none (kind_is (codes "194") group h.accepted h.received.accepted_is) ∙ h.accepted_is)
    ∙ ap (λ n. receipt_line line.gtin line.accepted n d)
    (ap of_none (kind_is (codes "195") group h.returned h.received.returned_is) ∙ h.returned_is)
    ∙ ap (λ n. receipt_line line.gtin line.accepted line.returned n)
    (ap of_none (kind_is (codes "196") group h.destroyed h.received.destroyed_is) ∙ h.destroyed_is)

abbrev IsSomeLine : List Segment → Type 0
IsSomeLine group = (n : ℕ) × (article : List ℕ) × IsLine group n article

lines_there : (groups : List (List Segment))
    → AllByRecursion IsSomeLine groups
    → list_all is_received groups ≡ true
    → AllZip IsReceiptLine groups (map line_of groups)
lines_there [] line e = tt
lines_there (group ∷ groups) line e =
    let both = and_parts (is_received group) (list_all is_received groups) e in (
      record {
        number = line.0.0;
        line_is = subst (IsLine group line.0.0) (sym (article-from_IsLine group line.0.0 line.0.1 line.0.2)) line.0.2;
        accepted = accepted group;
        returned = returned group;
        destroyed = destroyed group;
        received = received_there group both.0;
        accepted_is = refl;
        returned_is = refl;
        destroyed_is = refl;
      },
      lines_there groups line.1 both.1,
    )

all_received : (groups : List (List Segment)) (lines : List ReceiptLine)
    → AllZip IsReceiptLine groups lines
    → list_all is_received groups ≡ true
all_received [] [] h = refl
all_received [] (line ∷ lines) h = absurd h
all_received (group ∷ groups) [] h = absurd h
all_received (group ∷ groups) (line ∷ lines) h =
    and_from (is_received group) (list_all is_received groups)
    (received_is group h.0.accepted h.0.returned h.0.destroyed h.0.received) (all_received groups lines h.1)

-- the quantities of a unit whose lines are valid
Decides-groups : (groups : List (List Segment))
    → AllByRecursion IsSomeLine groups
    → Decides (list_all is_received groups && has_sums (map line_of groups)) (AreReceived groups)
Decides-groups groups line = (
  (λ e. let both = and_parts (list_all is_received groups) (has_sums (map line_of groups)) e in
      record {
        lines = map line_of groups;
        lines_are = lines_there groups line both.0;
        within = (Decides-within (map line_of groups)).0 both.1;
      }),
  (λ h. and_from (list_all is_received groups) (has_sums (map line_of groups)) (all_received groups h.lines h.lines_are)
      ((Decides-within (map line_of groups)).1
      (subst AreWithin (sym (zip_is line_of IsReceiptLine line_is groups h.lines h.lines_are)) h.within))),
)

Decides-unit : (unit : List Segment) → OfLines (AllByRecursion IsSomeLine) unit → Decides (has_quantities unit) (OfLines AreReceived unit)
Decides-unit unit line =
    let d = Decides-groups (line_groups unit) (of_lines (AllByRecursion IsSomeLine) unit line) in (
      (λ e. record { groups = line_groups unit; are_groups = AreLineGroups-line_groups unit; are = d.0 e }),
      (λ h. d.1 (of_lines AreReceived unit h)),
    )

Decides-each_unit : (parts : List (List Segment))
    → AllByRecursion (OfLines (AllByRecursion IsSomeLine)) parts
    → Decides (list_all has_quantities parts) (AllByRecursion (OfLines AreReceived) parts)
Decides-each_unit [] line = ((λ e. tt), (λ h. refl))
Decides-each_unit (unit ∷ parts) line =
    Decides-and (has_quantities unit) (list_all has_quantities parts) (Decides-unit unit line.0)
    (Decides-each_unit parts line.1)

Decides-quantities : (message : List Segment)
    → AreLines message
    → Decides (list_all has_quantities (read_units message)) (OfUnits (AllByRecursion (OfLines AreReceived)) message)
Decides-quantities message line =
    let d = Decides-each_unit (read_units message) (of_units (AllByRecursion (OfLines (AllByRecursion IsSomeLine))) message line) in (
      (λ e. record { units = read_units message; are_units = AreReadUnits-read_units message; are = d.0 e }),
      (λ h. d.1 (of_units (AllByRecursion (OfLines AreReceived)) message h)),
    )

-- each condition, if what the lower numbers check is valid
refutes : (m : RawMessage) (fault : MessageFault)
    → ((other : MessageFault) → number other < number fault → IsRightReceipt m other)
    → Refutes (holds fault m) (IsRightReceipt m fault)
refutes m faults.MessageType lower = Refutes-not _ (Decides-type (codes "RECADV") m)
refutes m faults.Beginning lower = Refutes-not _ (Decides-begins (codes "632") m.segments)
refutes m faults.Function lower = Refutes-not _ (Decides-has_function m.segments)
refutes m faults.Date lower = Refutes-not _ (Decides-dated m.segments)
refutes m faults.Parties lower = Refutes-not _ (Decides-parties m.segments)
refutes m faults.Line lower = Refutes-not _ (Decides-each_line m.segments)
refutes m faults.Quantity lower = Refutes-not _ (Decides-quantities m.segments (lower faults.Line (omega arith)))
refutes m faults.Unit lower = Refutes-not _ (Decides-has_units m.segments)
refutes m faults.Control lower = Refutes-not _ (Decides-controlled m.segments)
refutes m faults.WithoutLines lower = Refutes-no_line m.segments
refutes m other lower = Refutes-false

-- what a unit says
received_lines : (unit : List Segment)
    → OfLines AreReceived unit
    → OfLines (λ groups. AllZip IsReceiptLine groups (lines_in_unit unit)) unit
received_lines unit h =
    let given = of_lines AreReceived unit h in
    record {
      groups = line_groups unit;
      are_groups = AreLineGroups-line_groups unit;
      are =
          subst (AllZip IsReceiptLine (line_groups unit))
          (sym (zip_is line_of IsReceiptLine line_is (line_groups unit) given.lines given.lines_are)) given.lines_are;
    }

units_there : (parts : List (List Segment)) (ssccs : List (List ℕ))
    → AllByRecursion (OfLines AreReceived) parts
    → AllZip IsUnit parts ssccs
    → AllZip IsReceiptUnit parts (map unit_from parts)
units_there [] ssccs received marked = tt
units_there (unit ∷ parts) [] received marked = absurd marked
units_there (unit ∷ parts) (digits ∷ ssccs) received marked = (
  record {
    sscc_is = subst (HasSscc unit) (sym (sscc-from_HasSscc unit digits marked.0.sscc_is)) marked.0.sscc_is;
    lines_are = received_lines unit received.0;
  },
  units_there parts ssccs received.1 marked.1,
)

abbrev receipt_unit : List ℕ → List ReceiptLine → ReceiptUnit
receipt_unit digits lines = record { sscc = digits; lines = lines }

unit_is : (unit : List Segment) (one : ReceiptUnit) → IsReceiptUnit unit one → unit_from unit ≡ one
unit_is unit one h =
    let given = h.lines_are in
    ap (λ digits. receipt_unit digits (lines_in_unit unit)) (sscc-from_HasSscc unit one.sscc h.sscc_is)
    ∙ ap (λ lines. receipt_unit one.sscc lines)
    (ap (map line_of) (line_groups-from_AreLineGroups given.groups unit given.are_groups)
    ∙ zip_is line_of IsReceiptLine line_is given.groups one.lines given.are)

-- what the advice says
contents_there : (m : RawMessage) → IsFaultless (IsRightReceipt m) → IsReceipt m.segments (contents_of m.segments)
contents_there m right =
    let message = m.segments in
    let beginning = right faults.Beginning in
    let parties = right faults.Parties in
    let marked = of_units AreMarked message (right faults.Unit).units in
    record {
      number_is = HasBeginning-begins_as (codes "632") message (begins_as-from_HasBeginning (codes "632") message beginning.0 beginning.1);
      buyer_is = NamesBuyer-buyer message parties.0.0 parties.0.1;
      supplier_is =
          said_of (party (codes "SU") message) (NamesParty (codes "SU") message) [] (Says-party (codes "SU") message)
          ((Decides-party (codes "SU") message).1 parties.1);
      replaces_is = replaces_there message (right faults.Function);
      units_are = record {
        units = read_units message;
        are_units = AreReadUnits-read_units message;
        are =
            units_there (read_units message) marked.ssccs
            (of_units (AllByRecursion (OfLines AreReceived)) message (right faults.Quantity)) marked.marked;
      };
    }

abbrev receipt_from : List ℕ → Option (List ℕ) → List ℕ → Bool → List ReceiptUnit → Receipt
receipt_from number_ buyer_ supplier said units =
    record { number = number_; buyer = buyer_; supplier = supplier; replaces = said; units = units }

contents_are : (message : List Segment) (receipt : Receipt) → IsReceipt message receipt → contents_of message ≡ receipt
contents_are message receipt h =
    let su = unwrap_or (party (codes "SU") message) [] in
    let units = map unit_from (read_units message) in
    let given = h.units_are in
    let supplier = unwrap_of (party (codes "SU") message) (NamesParty (codes "SU") message) [] receipt.supplier
    (Says-party (codes "SU") message) h.supplier_is in
    ap (λ n. receipt_from n (buyer message) su (replaces message) units)
    (document_number-from_HasBeginning (codes "632") message receipt.number h.number_is)
    ∙ ap (λ b. receipt_from receipt.number b su (replaces message) units) (buyer-from_NamesBuyer message receipt.buyer h.buyer_is)
    ∙ ap (λ s. receipt_from receipt.number receipt.buyer s (replaces message) units) (sym supplier)
    ∙ ap (λ said. receipt_from receipt.number receipt.buyer receipt.supplier said units)
    (replaces_is message receipt.replaces h.replaces_is)
    ∙ ap (λ us. receipt_from receipt.number receipt.buyer receipt.supplier receipt.replaces us)
    (ap (map unit_from) (read_units-from_AreReadUnits given.units message given.are_units)
    ∙ zip_is unit_from IsReceiptUnit unit_is given.units receipt.units given.are)

pub fault_law : (m : RawMessage) (fault : MessageFault) → (receipt_of m ≡ Err fault) ↔ IsLowest (IsRightReceipt m) fault
unfolding receipt_of
fault_law m fault = fault_is_lowest (λ f. holds f m) (IsRightReceipt m) (refutes m) refl (contents_of m.segments) fault

pub receipt_law : (m : RawMessage) (receipt : Receipt)
    → (receipt_of m ≡ Ok receipt) ↔ (IsFaultless (IsRightReceipt m) × IsReceipt m.segments receipt)
unfolding receipt_of
receipt_law m receipt =
    let law = content_is_faultless (λ f. holds f m) (IsRightReceipt m) (refutes m) refl (contents_of m.segments) receipt in (
      (λ h. let both = law.0 h in (both.0, subst (IsReceipt m.segments) both.1 (contents_there m both.0))),
      (λ h. law.1 (h.0, contents_are m.segments receipt h.1)),
    )

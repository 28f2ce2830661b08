-- What is known of an advice that was read, without its definition.
use Rattle.std.proofs.Common.{◌≡◌, ◌&&◌, not, ℕ, List, [], ◌∷◌, map, true, false, Option, None, Ok, refl, sym, ap, ◌∙◌}
use Rattle.std.specs.List.{list_all}
use Rattle.std.proofs.lemmas.Bool.{not-true, not-false, and_parts, and_from}
use Rattle.std.proofs.lemmas.Simd.{map-map}
use Rattle.edi_base.specs.Seen.{has_twice}
use Rattle.edi_messages.specs.EdiSegments.declared.segment.Segment.{Segment}
use Rattle.edi_messages.specs.EdiEnvelope.declared.interchange.RawMessage.{RawMessage}
use Rattle.edi_messages.specs.Fault.{faults, faults_from, unless}
use Rattle.edi_messages.specs.Parts.{line_groups}
use Rattle.edi_messages.specs.declared.fault.MessageFault.{MessageFault}
use Rattle.edi_messages.specs.declared.fault.MessageFault.TheVariants as fault
use Rattle.edi_messages.proofs.Valid.{content_is, no_fault_holds}
use Rattle.edi_goods.specs.Despatch.{holds as despatch_holds, header_order, unit_from as despatch_unit}
use Rattle.edi_goods.specs.Despatch.{contents_of as despatch_contents, despatch_of, lowest as despatch_lowest}
use Rattle.edi_goods.specs.Receipt.{is_received, lines_in_unit, has_sums, has_quantities, holds as receipt_holds}
use Rattle.edi_goods.specs.Receipt.{unit_from as receipt_unit, contents_of as receipt_contents, receipt_of}
use Rattle.edi_goods.specs.Receipt.{lowest as receipt_lowest}
use Rattle.edi_goods.specs.Units.{read_units, has_line_outside, is_unit, has_units, sscc_or_none}
use Rattle.edi_goods.specs.declared.despatch.Despatch.{Despatch}
use Rattle.edi_goods.specs.declared.despatch.Unit.{Unit as DespatchUnit}
use Rattle.edi_goods.specs.declared.receipt.Receipt.{Receipt}
use Rattle.edi_goods.specs.declared.receipt.ReceiptUnit.{ReceiptUnit}

-- no SSCC of the units that are read stands twice
units_apart : (message : List Segment) → has_units message ≡ true → has_twice (map sscc_or_none (read_units message)) ≡ false
units_apart message h =
    let units = read_units message in
    not-true _ (and_parts (not (has_line_outside message) && list_all is_unit units) (not (has_twice (map sscc_or_none units))) h).1

-- the same, of what they became
pub receipt_units_apart : (message : List Segment)
    → has_units message ≡ true
    → has_twice (map (λ unit. unit.sscc) (map receipt_unit (read_units message))) ≡ false
receipt_units_apart message h =
    ap has_twice (map-map (λ (unit : ReceiptUnit). unit.sscc) receipt_unit (read_units message)) ∙ units_apart message h

pub despatch_units_apart : (order : List ℕ) (message : List Segment)
    → has_units message ≡ true
    → has_twice (map (λ unit. unit.sscc) (map (despatch_unit order) (read_units message))) ≡ false
despatch_units_apart order message h =
    ap has_twice (map-map (λ (unit : DespatchUnit). unit.sscc) (despatch_unit order) (read_units message))
    ∙ units_apart message h

-- no sum of a unit is too great where each has its quantities
pub receipt_units_sums : (units : List (List Segment))
    → list_all has_quantities units ≡ true
    → list_all (λ unit. has_sums unit.lines) (map receipt_unit units) ≡ true
receipt_units_sums [] h = refl
receipt_units_sums (unit ∷ units) h =
    let parts = and_parts (has_quantities unit) (list_all has_quantities units) h in
    and_from _ _ (and_parts (list_all is_received (line_groups unit)) (has_sums (lines_in_unit unit)) parts.0).1
    (receipt_units_sums units parts.1)

-- no SSCC of a receiving advice stands twice
pub receipt_apart : (m : RawMessage) (receipt : Receipt)
    → receipt_of m ≡ Ok receipt
    → has_twice (map (λ unit. unit.sscc) receipt.units) ≡ false
unfolding receipt_of
receipt_apart m receipt h =
    let right = no_fault_holds (λ f. receipt_holds f m) (receipt_contents m.segments) receipt refl h fault.Unit in
    ap (λ (r : Receipt). has_twice (map (λ unit. unit.sscc) r.units))
    (sym (content_is (λ f. receipt_holds f m) (receipt_contents m.segments) receipt h))
    ∙ receipt_units_apart m.segments (not-false _ right)

-- no article's sum in a unit of it is too great
pub receipt_sums : (m : RawMessage) (receipt : Receipt)
    → receipt_of m ≡ Ok receipt
    → list_all (λ unit. has_sums unit.lines) receipt.units ≡ true
unfolding receipt_of
receipt_sums m receipt h =
    let right = no_fault_holds (λ f. receipt_holds f m) (receipt_contents m.segments) receipt refl h fault.Quantity in
    ap (λ (r : Receipt). list_all (λ unit. has_sums unit.lines) r.units)
    (sym (content_is (λ f. receipt_holds f m) (receipt_contents m.segments) receipt h))
    ∙ receipt_units_sums (read_units m.segments) (not-false _ right)

-- no SSCC of a despatch advice stands twice
pub despatch_apart : (m : RawMessage) (despatch : Despatch)
    → despatch_of m ≡ Ok despatch
    → has_twice (map (λ unit. unit.sscc) despatch.units) ≡ false
unfolding despatch_of
despatch_apart m despatch h =
    let right = no_fault_holds (λ f. despatch_holds f m) (despatch_contents m.segments) despatch refl h fault.Unit in
    ap (λ (d : Despatch). has_twice (map (λ unit. unit.sscc) d.units))
    (sym (content_is (λ f. despatch_holds f m) (despatch_contents m.segments) despatch h))
    ∙ despatch_units_apart (header_order m.segments) m.segments (not-false _ right)

-- the receiving advice of a message in which no condition holds
pub receipt_when : (m : RawMessage) (receipt : Receipt)
    → receipt_lowest faults m ≡ receipt_lowest (faults_from fault.Line) m
    → receipt_lowest (faults_from fault.Line) m ≡ None
    → receipt_contents m.segments ≡ receipt
    → receipt_of m ≡ Ok receipt
unfolding receipt_of
receipt_when m receipt headed none same =
    ap (λ (found : Option MessageFault). unless found (receipt_contents m.segments)) (headed ∙ none)
    ∙ ap (λ (right : Receipt). Ok right) same

-- the despatch advice of a message in which no condition holds
pub despatch_when : (m : RawMessage) (despatch : Despatch)
    → despatch_lowest faults m ≡ despatch_lowest (faults_from fault.Line) m
    → despatch_lowest (faults_from fault.Line) m ≡ None
    → despatch_contents m.segments ≡ despatch
    → despatch_of m ≡ Ok despatch
unfolding despatch_of
despatch_when m despatch headed none same =
    ap (λ (found : Option MessageFault). unless found (despatch_contents m.segments)) (headed ∙ none)
    ∙ ap (λ (right : Despatch). Ok right) same

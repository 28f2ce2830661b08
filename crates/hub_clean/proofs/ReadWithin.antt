-- Shows that what is read from a message is within its limits.
use Rattle.std.proofs.Common.{◌≡◌, ℕ, ◌<◌, ◌≤◌, ◌==◌, nat_le, Bool, true, false, cond, not, ◌&&◌, List, [], ◌∷◌, map}
use Rattle.std.proofs.Common.{length, Option, Some, None, Ok, is_some, codes, refl, sym, subst, ◌∙◌, arith}
use Rattle.std.specs.Prelude.{option_and_then}
use Rattle.std.specs.List.{AllByRecursion, list_all, list_any, take_while}
use Rattle.std.specs.Option.{unwrap_or}
use Rattle.std.specs.Str.{bytes_eq}
use Rattle.std.proofs.lemmas.Bool.{not-true, not-false, and_parts, and_from, or_parts, leb-true, le-leb}
use Rattle.std.proofs.lemmas.Bool.Decides.{nat_tests}
use Rattle.std.proofs.lemmas.List.{length-map}
use Rattle.std.proofs.lemmas.List.Folds.{list_all-map}
use Rattle.std.proofs.lemmas.List.Sums.{take_while-cons}
use Rattle.edi_base.specs.Limits.{greatest, is_count, number_of, value_of}
use Rattle.edi_base.proofs.Numbers.{count_below}
use Rattle.gs1_ids.specs.Digits.{is_key}
use Rattle.gs1_ids.specs.Gtin.{IsGtin, is_gtin_length, gtin_of, in_fourteen}
use Rattle.gs1_ids.specs.Sscc.{sscc_of}
use Rattle.gs1_ids.proofs.Decided.{Decides-is_gtin, Decides-is_key}
use Rattle.gs1_ids.proofs.FilledFields.{IsKey-filled}
use Rattle.edi_segments.specs.declared.segment.Segment.{Segment}
use Rattle.edi_segments.specs.Segment.{element_at}
use Rattle.edi_envelope.specs.Segments.{component}
use Rattle.edi_envelope.specs.declared.interchange.RawMessage.{RawMessage}
use Rattle.edi_messages.specs.Header.{begins_as, document_number}
use Rattle.edi_messages.specs.Lines.{line, number, number_or_zero, gtin, is_sub_line, is_line as is_lin_line, is_piece}
use Rattle.edi_messages.specs.Lines.{from_least, amount, quantity_of}
use Rattle.edi_messages.specs.Parts.{is_lin, is_cps, up_to_next, parts_of, ends_part, line_groups, only_qualified}
use Rattle.edi_messages.specs.Values.{is_document_number, is_line_number, line_number, whole_part, quantity}
use Rattle.edi_messages.specs.Values.{is_quantity as is_quantity_text}
use Rattle.edi_messages.specs.declared.fault.MessageFault.TheVariants as fault
use Rattle.edi_messages.proofs.Valid.{content_is, no_fault_holds}
use Rattle.edi_orders.specs.Order as orders
use Rattle.edi_orders.specs.declared.order.Order.{Order}
use Rattle.edi_goods.specs.Despatch as despatches
use Rattle.edi_goods.specs.Receipt as receipts
use Rattle.edi_goods.specs.Sums.{sums_within}
use Rattle.edi_goods.specs.Units.{ends_unit, units, read_units, has_line_outside, sscc_in, sscc, sscc_or_none, has_identifier, is_unit}
use Rattle.edi_goods.specs.Units.{has_units, has_lines, head}
use Rattle.edi_goods.specs.declared.despatch.Despatch.{Despatch}
use Rattle.edi_goods.specs.declared.despatch.DespatchLine.{DespatchLine}
use Rattle.edi_goods.specs.declared.receipt.Receipt.{Receipt}
use Rattle.edi_goods.specs.declared.receipt.ReceiptLine.{ReceiptLine}
use Rattle.hub_tables.proofs.Lists.{all_filter, all_weaker}
use Rattle.hub_rules.specs.ReceiptRules.{total}
use Rattle.hub_rules.proofs.Totalled.{sum_by_kind, sum_total}
use Rattle.hub_store.specs.Clean.{is_number, is_line, is_quantity}
use Rattle.hub_clean.specs.Clean.{WithinOrderLine, WithinOrder, WithinUnit, WithinDespatch}
use Rattle.hub_clean.specs.Clean.{WithinReceiptLine, WithinReceiptUnit, WithinReceipt}
use Rattle.hub_clean.proofs.CleanRows.{true_all}

-- Options.

pub when_some : {X : Type 0} (test : Bool) (o : Option X) (x : X) → cond test o None ≡ Some x → (test ≡ true) × (o ≡ Some x)
when_some true o x h = (refl, h)
when_some false o x h = absurd cc

then_some : {X Y : Type 0} (f : X → Option Y) (o : Option X) (y : Y)
    → option_and_then f o ≡ Some y
    → (x : X) × (f x ≡ Some y)
then_some f None y h = absurd cc
then_some f (Some x) y h = (x, h)

unwrapped : {X : Type 0} (P : X → Type 0) (o : Option X) (d : X)
    → is_some o ≡ true
    → ((x : X) → o ≡ Some x → P x)
    → P (unwrap_or o d)
unwrapped P (Some x) d there f = f x refl
unwrapped P None d there f = absurd cc

-- Values.

value_within : (digits : List ℕ) (n : ℕ) → value_of digits ≡ Some n → n ≤ greatest
value_within digits n h =
    let parts = when_some (nat_le (number_of digits) greatest) (Some (number_of digits)) n h in
    let same : number_of digits ≡ n = cc in
    subst (λ m. m ≤ greatest) same (leb-true (number_of digits) greatest parts.0)

quantity_within : (bytes : List ℕ) (n : ℕ) → quantity bytes ≡ Some n → n ≤ greatest
quantity_within bytes n h = value_within (whole_part bytes) n (when_some (is_quantity_text bytes) (value_of (whole_part bytes)) n h).1

least_within : (least m n : ℕ) → from_least least m ≡ Some n → (least ≤ n) × (m ≡ n)
least_within least m n h =
    let parts = when_some (nat_le least m) (Some m) n h in
    let same : m ≡ n = cc in
    (subst (λ k. least ≤ k) same (leb-true least m parts.0), same)

read_within : (least : ℕ) (o : Option ℕ) (n : ℕ) → ((m : ℕ) → o ≡ Some m → m ≤ greatest) → option_and_then (from_least least) o ≡ Some n
    → (least ≤ n) × (n ≤ greatest)
read_within least None n f h = absurd cc
read_within least (Some m) n f h =
    let right = least_within least m n h in
    (right.0, subst (λ k. k ≤ greatest) right.1 (f m refl))

amount_within : (least : ℕ) (qty : Segment) (n : ℕ) → amount least qty ≡ Some n → (least ≤ n) × (n ≤ greatest)
amount_within least qty n h =
    read_within least (quantity (component qty 0 1)) n (quantity_within (component qty 0 1))
    (when_some (is_piece (component qty 0 2)) _ n h).1

quantity_of_within : (kind : List ℕ) (group : List Segment) (n : ℕ) → quantity_of kind 1 group ≡ Some n → is_quantity n ≡ true
quantity_of_within kind group n h =
    let one = then_some (amount 1) (only_qualified (codes "QTY") kind group) n h in
    let right = amount_within 1 one.0 n one.1 in
    and_from _ _ (le-leb 1 n right.0) (le-leb n greatest right.1)

line_number_within : (bytes : List ℕ) (n : ℕ) → line_number bytes ≡ Some n → is_line n ≡ true
line_number_within bytes n h =
    let parts = when_some (is_line_number bytes) (Some (number_of bytes)) n h in
    let tests = and_parts (is_count bytes) (not (number_of bytes == 0)) parts.0 in
    let few = count_below bytes tests.0 in
    let some : number_of bytes == 0 ≡ false = not-true _ tests.1 in
    let same : number_of bytes ≡ n = cc in
    let low : 1 ≤ n = grind (arith, nat_tests) in
    let high : n ≤ 999_999 = omega (arith, few, same) in
    and_from _ _ (le-leb 1 n low) (le-leb n 999_999 high)

gtin_is_key : (text key : List ℕ) → gtin_of text ≡ Some key → is_key 14 key ≡ true
gtin_is_key text key h =
    let parts = when_some (is_gtin_length (length text) && is_key (length text) text) (Some (in_fourteen text)) key h in
    let right : IsGtin text = (Decides-is_gtin text).0 parts.0 in
    let tests = right.len in
    let some : 0 < length text = grind (arith, nat_tests) in
    let fits : length text ≤ 14 = grind (arith, nat_tests) in
    let same : in_fourteen text ≡ key = cc in
    subst (λ k. is_key 14 k ≡ true) same ((Decides-is_key 14 (in_fourteen text)).1 (IsKey-filled text some fits right.key))

group_gtin : (group : List Segment) (key : List ℕ) → gtin group ≡ Some key → is_key 14 key ≡ true
group_gtin group key h =
    gtin_is_key (component (line group) 2 0) key (when_some (bytes_eq (component (line group) 2 1) (codes "SRV")) _ key h).1

unit_sscc : (unit : List Segment) (key : List ℕ) → sscc unit ≡ Some key → is_key 18 key ≡ true
unit_sscc unit key h =
    let one = then_some sscc_in (only_qualified (codes "GIN") (codes "BJ") (head unit)) key h in
    let gin = one.0 in
    let text = component gin 1 0 in
    let read = (when_some (length gin.elements == 2 && length (element_at gin.elements 1) == 1) (sscc_of text) key one.1).1 in
    let right = when_some (is_key 18 text) (Some text) key read in
    let same : text ≡ key = cc in
    subst (λ k. is_key 18 k ≡ true) same right.0

-- Groups.

line_is : (group : List Segment) → is_lin_line group ≡ true → (is_line (number_or_zero group) ≡ true)
    × (is_key 14 (unwrap_or (gtin group) []) ≡ true)
line_is group h =
    let both = and_parts (is_some (number group)) (is_some (gtin group)) (and_parts _ (not (is_sub_line group)) h).0 in (
      unwrapped (λ n. is_line n ≡ true) (number group) 0 both.0 (line_number_within (component (line group) 0 0)),
      unwrapped (λ k. is_key 14 k ≡ true) (gtin group) [] both.1 (group_gtin group),
    )

quantity_is : (kind : List ℕ) (group : List Segment) → is_some (quantity_of kind 1 group) ≡ true
    → is_quantity (unwrap_or (quantity_of kind 1 group) 0) ≡ true
quantity_is kind group h = unwrapped (λ n. is_quantity n ≡ true) (quantity_of kind 1 group) 0 h (quantity_of_within kind group)

number_is : (code : List ℕ) (message : List Segment) → begins_as code message ≡ true → is_number (document_number message) ≡ true
number_is code message h = (and_parts _ (is_document_number (document_number message)) h).1

-- Orders.

order_lines_within : (groups : List (List Segment))
    → list_all is_lin_line groups ≡ true
    → list_all (λ group. is_some (orders.ordered group)) groups ≡ true
    → AllByRecursion WithinOrderLine (map orders.line_of groups)
order_lines_within [] lines quantities = tt
order_lines_within (group ∷ groups) lines quantities =
    let one = and_parts (is_lin_line group) (list_all is_lin_line groups) lines in
    let many = and_parts (is_some (orders.ordered group)) (list_all (λ group. is_some (orders.ordered group)) groups) quantities in
    let both = line_is group one.0 in
    (record { number = both.0; item = both.1; quantity = quantity_is (codes "21") group many.0 }, order_lines_within groups one.1 many.1)

pub order_within : (m : RawMessage) (order : Order) → orders.order_of m ≡ Ok order → WithinOrder order
unfolding orders.order_of
order_within m order h =
    let right = no_fault_holds (λ f. orders.holds f m) (orders.contents_of m.segments) order refl h in
    let groups = line_groups m.segments in
    let lines = not-false _ (or_parts (not (list_all is_lin_line groups)) _ (right fault.Line)).0 in
    subst WithinOrder (content_is (λ f. orders.holds f m) (orders.contents_of m.segments) order h) (record {
      number = number_is (codes "220") m.segments (not-false _ (right fault.Beginning));
      lines = order_lines_within groups lines (not-false _ (right fault.Quantity));
    })

-- Units.

front_no_longer : {X : Type 0} (p : X → Bool) (xs : List X) → length (take_while p xs) ≤ length xs
front_no_longer p [] = omega arith
front_no_longer p (x ∷ xs) =
    let ih = front_no_longer p xs in
    let e = take_while-cons p x xs in
    subst (λ ys. length ys ≤ length (x ∷ xs)) (sym e)
    (elim (p x) as (λ v. length (cond v (x ∷ take_while p xs) []) ≤ length (x ∷ xs)) [ true ↦ omega (arith, ih) | false ↦ omega arith ])

parts_no_more : (begins ends : Segment → Bool) (segments : List Segment) → length (parts_of begins ends segments) ≤ length segments
parts_no_more begins ends [] = omega arith
parts_no_more begins ends (segment ∷ rest) =
    let ih = parts_no_more begins ends rest in
    let part = up_to_next ends (segment ∷ rest) in
    elim (begins segment) as (λ v. length (cond v (part ∷ parts_of begins ends rest) (parts_of begins ends rest)) ≤ length (segment ∷ rest))
    [ true ↦ omega (arith, ih) | false ↦ omega (arith, ih) ]

parts_short : (most : ℕ) (begins ends : Segment → Bool) (segments : List Segment)
    → length segments ≤ most
    → AllByRecursion (λ part. length part ≤ most) (parts_of begins ends segments)
parts_short most begins ends [] h = tt
parts_short most begins ends (segment ∷ rest) h =
    let part = up_to_next ends (segment ∷ rest) in
    let front = front_no_longer (λ one. not (ends one)) rest in
    let ih = parts_short most begins ends rest (omega (arith, h)) in
    elim (begins segment) as (λ v. AllByRecursion (λ part. length part ≤ most)
    (cond v (part ∷ parts_of begins ends rest) (parts_of begins ends rest)))
    [ true ↦ (omega (arith, front, h), ih) | false ↦ ih ]

units_short : (most : ℕ) (message : List Segment) → length message ≤ most
    → AllByRecursion (λ unit. length unit ≤ most) (read_units message)
units_short most message h =
    all_filter (λ unit. length unit ≤ most) (list_any is_lin) (units message) (parts_short most is_cps ends_unit message h)

unit_is : (unit : List Segment) → is_unit unit ≡ true → is_key 18 (sscc_or_none unit) ≡ true
unit_is unit h =
    unwrapped (λ k. is_key 18 k ≡ true) (sscc unit) [] (and_parts (has_identifier unit) (is_some (sscc unit)) h).1 (unit_sscc unit)

units_are : (message : List Segment) → has_units message ≡ true → list_all is_unit (read_units message) ≡ true
units_are message h =
    (and_parts (not (has_line_outside message)) (list_all is_unit (read_units message)) (and_parts _ _ h).0).1

-- Despatch advices.

despatch_quantities : (order : List ℕ) (groups : List (List Segment))
    → list_all (λ group. is_some (despatches.despatched group)) groups ≡ true
    → AllByRecursion (λ (line : DespatchLine). is_quantity line.quantity ≡ true) (map (despatches.line_of order) groups)
despatch_quantities order [] h = tt
despatch_quantities order (group ∷ groups) h =
    let parts = and_parts (is_some (despatches.despatched group)) (list_all (λ group. is_some (despatches.despatched group)) groups) h in
    (quantity_is (codes "12") group parts.0, despatch_quantities order groups parts.1)

despatch_units_within : (order : List ℕ) (parts : List (List Segment))
    → list_all is_unit parts ≡ true
    → list_all despatches.has_quantities parts ≡ true
    → AllByRecursion (λ part. length part ≤ 999_999) parts
    → AllByRecursion WithinUnit (map (despatches.unit_from order) parts)
despatch_units_within order [] right quantities short = tt
despatch_units_within order (part ∷ parts) right quantities short =
    let one = and_parts (is_unit part) (list_all is_unit parts) right in
    let many = and_parts (despatches.has_quantities part) (list_all despatches.has_quantities parts) quantities in
    let groups = line_groups part in
    let few = parts_no_more is_lin ends_part part in
    let first : length part ≤ 999_999 = short.0 in
    let same = length-map groups (despatches.line_of order) in (
      record {
        sscc = unit_is part one.0;
        places = omega (arith, few, first, same);
        quantities = despatch_quantities order groups many.0;
      },
      despatch_units_within order parts one.1 many.1 short.1,
    )

pub despatch_within : (m : RawMessage) (despatch : Despatch)
    → despatches.despatch_of m ≡ Ok despatch
    → length m.segments ≤ 999_999
    → WithinDespatch despatch
unfolding despatches.despatch_of
despatch_within m despatch h short =
    let right = no_fault_holds (λ f. despatches.holds f m) (despatches.contents_of m.segments) despatch refl h in
    subst WithinDespatch (content_is (λ f. despatches.holds f m) (despatches.contents_of m.segments) despatch h) (record {
      number = number_is (codes "351") m.segments (not-false _ (right fault.Beginning));
      units = despatch_units_within (despatches.header_order m.segments) (read_units m.segments)
          (units_are m.segments (not-false _ (right fault.Unit))) (not-false _ (right fault.Quantity))
          (units_short 999_999 m.segments short);
    })

-- Receiving advices.

receipt_items : (groups : List (List Segment))
    → list_all is_lin_line groups ≡ true
    → AllByRecursion (λ (line : ReceiptLine). is_key 14 line.gtin ≡ true) (map receipts.line_of groups)
receipt_items [] h = tt
receipt_items (group ∷ groups) h =
    let parts = and_parts (is_lin_line group) (list_all is_lin_line groups) h in
    ((line_is group parts.0).1, receipt_items groups parts.1)

totals_within : (kind : ReceiptLine → ℕ) (lines : List ReceiptLine)
    → sums_within (map (λ (line : ReceiptLine). record { gtin = line.gtin; quantity = kind line }) lines) ≡ true
    → AllByRecursion (λ line. total kind line.gtin lines ≤ greatest) lines
totals_within kind lines all =
    let test : ReceiptLine → Bool = λ line. nat_le (sum_by_kind kind line.gtin lines) greatest in
    let each : list_all test lines ≡ true = sym (list_all-map _ _ lines) ∙ all in
    all_weaker (λ line. test line ≡ true) (λ line. total kind line.gtin lines ≤ greatest)
    (λ line e. subst (λ n. n ≤ greatest) (sum_total kind line.gtin lines) (leb-true (sum_by_kind kind line.gtin lines) greatest e))
    lines (true_all test lines each)

receipt_lines_within : (whole lines : List ReceiptLine)
    → AllByRecursion (λ (line : ReceiptLine). is_key 14 line.gtin ≡ true) lines
    → AllByRecursion (λ line. total (λ line. line.accepted) line.gtin whole ≤ greatest) lines
    → AllByRecursion (λ line. total (λ line. line.returned) line.gtin whole ≤ greatest) lines
    → AllByRecursion (λ line. total (λ line. line.destroyed) line.gtin whole ≤ greatest) lines
    → AllByRecursion (WithinReceiptLine whole) lines
receipt_lines_within whole [] items accepted returned destroyed = tt
receipt_lines_within whole (line ∷ lines) items accepted returned destroyed = (
  record { item = items.0; accepted = accepted.0; returned = returned.0; destroyed = destroyed.0 },
  receipt_lines_within whole lines items.1 accepted.1 returned.1 destroyed.1,
)

sums_are_within : (lines : List ReceiptLine)
    → AllByRecursion (λ (line : ReceiptLine). is_key 14 line.gtin ≡ true) lines
    → receipts.has_sums lines ≡ true
    → AllByRecursion (WithinReceiptLine lines) lines
sums_are_within lines items sums =
    let parts = and_parts _ _ sums in
    let first = and_parts _ _ parts.0 in
    receipt_lines_within lines lines items (totals_within (λ line. line.accepted) lines first.0)
    (totals_within (λ line. line.returned) lines first.1) (totals_within (λ line. line.destroyed) lines parts.1)

receipt_units_within : (parts : List (List Segment))
    → list_all is_unit parts ≡ true
    → list_all has_lines parts ≡ true
    → list_all receipts.has_quantities parts ≡ true
    → AllByRecursion WithinReceiptUnit (map receipts.unit_from parts)
receipt_units_within [] right lines quantities = tt
receipt_units_within (part ∷ parts) right lines quantities =
    let one = and_parts (is_unit part) (list_all is_unit parts) right in
    let items = and_parts (has_lines part) (list_all has_lines parts) lines in
    let many = and_parts (receipts.has_quantities part) (list_all receipts.has_quantities parts) quantities in
    let sums =
    (and_parts (list_all receipts.is_received (line_groups part)) (receipts.has_sums (receipts.lines_in_unit part)) many.0).1 in (
      record {
        sscc = unit_is part one.0;
        lines = sums_are_within (receipts.lines_in_unit part) (receipt_items (line_groups part) items.0) sums;
      },
      receipt_units_within parts one.1 items.1 many.1,
    )

pub receipt_within : (m : RawMessage) (receipt : Receipt) → receipts.receipt_of m ≡ Ok receipt → WithinReceipt receipt
unfolding receipts.receipt_of
receipt_within m receipt h =
    let right = no_fault_holds (λ f. receipts.holds f m) (receipts.contents_of m.segments) receipt refl h in
    subst WithinReceipt (content_is (λ f. receipts.holds f m) (receipts.contents_of m.segments) receipt h) (record {
      number = number_is (codes "632") m.segments (not-false _ (right fault.Beginning));
      units = receipt_units_within (read_units m.segments) (units_are m.segments (not-false _ (right fault.Unit)))
          (not-false _ (right fault.Line)) (not-false _ (right fault.Quantity));
    })

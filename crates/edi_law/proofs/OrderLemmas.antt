-- Shows that the conditions of an order, and the order that is read, are those of the relations.
use Rattle.std.proofs.Common.{◌≡◌, ℕ, Bool, true, not, ◌||◌, List, [], ◌∷◌, map, Ok, Err, refl, sym, ap, subst, ◌∙◌}
use Rattle.std.specs.Prelude.{◌↔◌, codes, is_some, unwrap_or, Decides}
use Rattle.std.specs.List.{list_all, AllZip}
use Rattle.std.proofs.lemmas.Bool.{and_parts, and_from, or_parts, not-false}
use Rattle.std.proofs.lemmas.Bool.Decides.{Decides-and}
use Rattle.edi_segments.specs.declared.segment.Segment.{Segment}
use Rattle.edi_base.specs.Seen.{has_number_twice}
use Rattle.edi_envelope.specs.declared.interchange.RawMessage.{RawMessage}
use Rattle.edi_messages.specs.Header.{party}
use Rattle.edi_messages.specs.Lines.{number_or_zero, gtin, is_line}
use Rattle.edi_messages.specs.Parts.{line_groups}
use Rattle.edi_messages.specs.declared.fault.MessageFault.{MessageFault}
use Rattle.edi_messages.specs.declared.fault.MessageFault.TheVariants as faults
use Rattle.edi_orders.specs.Order.{ordered, holds, line_of, contents_of, order_of}
use Rattle.edi_orders.specs.declared.order.Order.{Order}
use Rattle.edi_orders.specs.declared.order.OrderLine.{OrderLine}
use Rattle.edi_law.specs.Header.{NamesParty}
use Rattle.edi_law.specs.Lines.{IsLine, HasQuantity, NoneTwice}
use Rattle.edi_law.specs.Lowest.{IsLowest, IsFaultless}
use Rattle.edi_law.specs.Order.{AreNumbered, IsRightOrder, IsOrderLine, IsOrder}
use Rattle.edi_law.specs.Parts.{OfLines}
use Rattle.edi_law.proofs.Deciding.{Refutes, or_refuted, Refutes-not, Refutes-false, Decides-all, Decides-is_some, said_of, unwrap_of}
use Rattle.edi_law.proofs.HeaderLemmas.{Decides-party, Decides-type, Decides-begins, Decides-function, Decides-dated}
use Rattle.edi_law.proofs.HeaderLemmas.{Says-party, HasBeginning-begins_as, begins_as-from_HasBeginning, document_number-from_HasBeginning}
use Rattle.edi_law.proofs.LineLemmas.{line_there, is_line-from_IsLine, number-from_IsLine, article-from_IsLine}
use Rattle.edi_law.proofs.LineLemmas.{Says-quantity_of, Refutes-number_twice}
use Rattle.edi_law.proofs.LowestLemmas.{fault_is_lowest, content_is_faultless}
use Rattle.edi_law.proofs.PartLemmas.{Refutes-lines, AreLineGroups-line_groups, line_groups-from_AreLineGroups, Decides-lines}
use Rattle.edi_law.proofs.SummaryLemmas.{Decides-closed, Decides-controlled, Refutes-no_line}

-- the lines
numbered_there : (groups : List (List Segment))
    → list_all is_line groups ≡ true
    → AllZip (λ group number. (digits : List ℕ) × IsLine group number digits) groups (map number_or_zero groups)
numbered_there [] e = tt
numbered_there (group ∷ groups) e =
    let both = and_parts (is_line group) (list_all is_line groups) e in
    ((unwrap_or (gtin group) [], line_there group both.0), numbered_there groups both.1)

numbered_lines : (groups : List (List Segment)) (numbers : List ℕ)
    → AllZip (λ group number. (digits : List ℕ) × IsLine group number digits) groups numbers
    → (list_all is_line groups ≡ true) × (map number_or_zero groups ≡ numbers)
numbered_lines [] [] h = (refl, refl)
numbered_lines [] (n ∷ numbers) h = absurd h
numbered_lines (group ∷ groups) [] h = absurd h
numbered_lines (group ∷ groups) (n ∷ numbers) h =
    let later = numbered_lines groups numbers h.1 in
    let e : number_or_zero group ≡ n = number-from_IsLine group n h.0.0 h.0.1 in (
      and_from (is_line group) (list_all is_line groups) (is_line-from_IsLine group n h.0.0 h.0.1) later.0,
      ap (λ m. m ∷ map number_or_zero groups) e ∙ ap (λ ms. n ∷ ms) later.1,
    )

abbrev are_numbered : List (List Segment) → Bool
are_numbered groups = not (list_all is_line groups) || has_number_twice (map number_or_zero groups)

Refutes-numbered : (groups : List (List Segment)) → Refutes (are_numbered groups) (AreNumbered groups)
Refutes-numbered groups = or_refuted (list_all is_line groups) (has_number_twice (map number_or_zero groups)) (AreNumbered groups)
    (λ e d. record {
      numbers = map number_or_zero groups;
      lines = numbered_there groups e;
      apart = (Refutes-number_twice (map number_or_zero groups)).0 d;
    })
    (λ h. (numbered_lines groups h.numbers h.lines).0)
    (λ h. (Refutes-number_twice (map number_or_zero groups)).1 (subst NoneTwice (sym (numbered_lines groups h.numbers h.lines).1) h.apart))

Decides-ordered : (group : List Segment) → Decides (is_some (ordered group)) ((quantity : ℕ) × HasQuantity (codes "21") 1 group quantity)
Decides-ordered group = Decides-is_some (ordered group) (HasQuantity (codes "21") 1 group) (Says-quantity_of (codes "21") 1 group)

-- each condition
refutes : (m : RawMessage) (fault : MessageFault) → Refutes (holds fault m) (IsRightOrder m fault)
refutes m faults.MessageType = Refutes-not _ (Decides-type (codes "ORDERS") m)
refutes m faults.Beginning = Refutes-not _ (Decides-begins (codes "220") m.segments)
refutes m faults.Function = Refutes-not _ (Decides-function m.segments (codes "9") (λ e. cc))
refutes m faults.Date = Refutes-not _ (Decides-dated m.segments)
refutes m faults.Parties = Refutes-not _ (Decides-and _ _ (Decides-party (codes "BY") m.segments) (Decides-party (codes "SU") m.segments))
refutes m faults.Summary = Refutes-not _ (Decides-closed m.segments)
refutes m faults.Line = Refutes-lines are_numbered AreNumbered Refutes-numbered m.segments
refutes m faults.Quantity = Refutes-not _ (Decides-lines _ _ (Decides-all (λ group. is_some (ordered group)) _ Decides-ordered) m.segments)
refutes m faults.Control = Refutes-not _ (Decides-controlled m.segments)
refutes m faults.WithoutLines = Refutes-no_line m.segments
refutes m other = Refutes-false

-- what the order says
lines_there : (groups : List (List Segment))
    → list_all is_line groups ≡ true
    → list_all (λ group. is_some (ordered group)) groups ≡ true
    → AllZip IsOrderLine groups (map line_of groups)
lines_there [] e q = tt
lines_there (group ∷ groups) e q =
    let line = and_parts (is_line group) (list_all is_line groups) e in
    let quantity = and_parts (is_some (ordered group)) (list_all (λ group. is_some (ordered group)) groups) q in (
      record {
        line_is = line_there group line.0;
        quantity_is =
            said_of (ordered group) (HasQuantity (codes "21") 1 group) 0 (Says-quantity_of (codes "21") 1 group)
            quantity.0;
      },
      lines_there groups line.1 quantity.1,
    )

abbrev order_line : ℕ → List ℕ → ℕ → OrderLine
order_line number article quantity = record { line = number; gtin = article; quantity = quantity }

line_is : (group : List Segment) (line : OrderLine) → IsOrderLine group line → line_of group ≡ line
line_is group line h =
    let number = number-from_IsLine group line.line line.gtin h.line_is in
    let article = article-from_IsLine group line.line line.gtin h.line_is in
    let quantity = sym (unwrap_of (ordered group) (HasQuantity (codes "21") 1 group) 0 line.quantity
    (Says-quantity_of (codes "21") 1 group) h.quantity_is) in
    ap (λ n. order_line n (unwrap_or (gtin group) []) (unwrap_or (ordered group) 0)) number
    ∙ ap (λ g. order_line line.line g (unwrap_or (ordered group) 0)) article
    ∙ ap (λ q. order_line line.line line.gtin q) quantity

lines_are : (groups : List (List Segment)) (lines : List OrderLine) → AllZip IsOrderLine groups lines → map line_of groups ≡ lines
lines_are [] [] h = refl
lines_are [] (line ∷ lines) h = absurd h
lines_are (group ∷ groups) [] h = absurd h
lines_are (group ∷ groups) (line ∷ lines) h =
    ap (λ one. one ∷ map line_of groups) (line_is group line h.0) ∙ ap (λ others. line ∷ others) (lines_are groups lines h.1)

list_is : (message : List Segment) (lines : List OrderLine)
    → OfLines (λ groups. AllZip IsOrderLine groups lines) message
    → map line_of (line_groups message) ≡ lines
list_is message lines h = ap (map line_of) (line_groups-from_AreLineGroups h.groups message h.are_groups) ∙ lines_are h.groups lines h.are

contents_there : (m : RawMessage) → IsFaultless (IsRightOrder m) → IsOrder m.segments (contents_of m.segments)
contents_there m right =
    let message = m.segments in
    let parties = right faults.Parties in
    let numbered = or_parts _ _ ((refutes m faults.Line).1 (right faults.Line)) in
    record {
      number_is =
          HasBeginning-begins_as (codes "220") message
          (begins_as-from_HasBeginning (codes "220") message (right faults.Beginning).0 (right faults.Beginning).1);
      buyer_is =
          said_of (party (codes "BY") message) (NamesParty (codes "BY") message) [] (Says-party (codes "BY") message)
          ((Decides-party (codes "BY") message).1 parties.0);
      supplier_is =
          said_of (party (codes "SU") message) (NamesParty (codes "SU") message) [] (Says-party (codes "SU") message)
          ((Decides-party (codes "SU") message).1 parties.1);
      lines_are = record {
        groups = line_groups message;
        are_groups = AreLineGroups-line_groups message;
        are =
            lines_there (line_groups message) (not-false _ numbered.0)
            (not-false _ ((refutes m faults.Quantity).1 (right faults.Quantity)));
      };
    }

abbrev order_from : List ℕ → List ℕ → List ℕ → List OrderLine → Order
order_from number buyer supplier lines = record { number = number; buyer = buyer; supplier = supplier; lines = lines }

contents_are : (message : List Segment) (order : Order) → IsOrder message order → contents_of message ≡ order
contents_are message order h =
    let buyer = unwrap_of (party (codes "BY") message) (NamesParty (codes "BY") message) [] order.buyer
    (Says-party (codes "BY") message) h.buyer_is in
    let supplier = unwrap_of (party (codes "SU") message) (NamesParty (codes "SU") message) [] order.supplier
    (Says-party (codes "SU") message) h.supplier_is in
    let lines = map line_of (line_groups message) in
    ap (λ n. order_from n (unwrap_or (party (codes "BY") message) []) (unwrap_or (party (codes "SU") message) []) lines)
    (document_number-from_HasBeginning (codes "220") message order.number h.number_is)
    ∙ ap (λ b. order_from order.number b (unwrap_or (party (codes "SU") message) []) lines) (sym buyer)
    ∙ ap (λ s. order_from order.number order.buyer s lines) (sym supplier)
    ∙ ap (λ ls. order_from order.number order.buyer order.supplier ls) (list_is message order.lines h.lines_are)

pub fault_law : (m : RawMessage) (fault : MessageFault) → (order_of m ≡ Err fault) ↔ IsLowest (IsRightOrder m) fault
unfolding order_of
fault_law m fault = fault_is_lowest (λ f. holds f m) (IsRightOrder m) (λ f lower. refutes m f) refl
    (contents_of m.segments) fault

pub order_law : (m : RawMessage) (order : Order) → (order_of m ≡ Ok order) ↔ (IsFaultless (IsRightOrder m) × IsOrder m.segments order)
unfolding order_of
order_law m order =
    let law = content_is_faultless (λ f. holds f m) (IsRightOrder m) (λ f lower. refutes m f) refl
    (contents_of m.segments) order in (
      (λ h. let both = law.0 h in (both.0, subst (IsOrder m.segments) both.1 (contents_there m both.0))),
      (λ h. law.1 (h.0, contents_are m.segments order h.1)),
    )

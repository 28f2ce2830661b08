-- Shows that for messages within their limits the rules accept only changes of clean rows.
use Rattle.std.proofs.Common.{◌≡◌, ℕ, ◌+◌, ◌-◌, ◌≤◌, nat_lt, nat_le, Bool, true, false, cond, not, ◌&&◌, ◌||◌, ◌⊎◌, inl}
use Rattle.std.proofs.Common.{inr, List, [], ◌∷◌, ◌++◌, map, length, Option, Some, None, refl, arith}
use Rattle.std.specs.List.{AllByRecursion}
use Rattle.std.proofs.lemmas.Bool.{and_parts, or_parts, and_from}
use Rattle.std.proofs.lemmas.Bool.Decides.{nat_tests}
use Rattle.edi_base.specs.Limits.{greatest}
use Rattle.edi_envelope.specs.Limits.{is_reference}
use Rattle.edi_envelope.specs.Mail.{last_number}
use Rattle.edi_moment.specs.Moment.{last_moment}
use Rattle.gs1_ids.specs.Digits.{is_key}
use Rattle.gs1_ids.specs.Gln.{is_gln}
use Rattle.gs1_ids.specs.Sscc.{under_some}
use Rattle.edi_orders.specs.declared.order.Order.{Order}
use Rattle.edi_orders.specs.declared.order.OrderLine.{OrderLine}
use Rattle.edi_orders.specs.declared.response.Answer.{Answer}
use Rattle.edi_orders.specs.declared.response.Answer.TheVariants.{AllAccepted, AllRefused, Lines}
use Rattle.edi_orders.specs.declared.response.AnswerLine.{AnswerLine}
use Rattle.edi_orders.specs.declared.response.LineAnswer.{LineAnswer}
use Rattle.edi_orders.specs.declared.response.LineAnswer.TheVariants.{Accepted, Refused, Changed}
use Rattle.edi_orders.specs.declared.response.Response.{Response}
use Rattle.edi_goods.specs.declared.despatch.Despatch.{Despatch}
use Rattle.edi_goods.specs.declared.despatch.DespatchLine.{DespatchLine}
use Rattle.edi_goods.specs.declared.despatch.Unit.{Unit}
use Rattle.edi_goods.specs.declared.receipt.Receipt.{Receipt}
use Rattle.edi_goods.specs.declared.receipt.ReceiptLine.{ReceiptLine}
use Rattle.edi_goods.specs.declared.receipt.ReceiptUnit.{ReceiptUnit}
use Rattle.hub_parties.specs.declared.row.SupplierRow.{SupplierRow}
use Rattle.hub_tables.specs.Cases.{answer_letter, arrival_number}
use Rattle.hub_tables.specs.Rows.{same}
use Rattle.hub_tables.specs.State.{knows_order, knows_advice, lines_of, line_of, despatched, waits, pallet_of}
use Rattle.hub_tables.specs.State.{is_announced, remembered_of}
use Rattle.hub_tables.specs.Tables.{Tables, has_pallet}
use Rattle.hub_tables.specs.declared.cases.LineState.TheVariants as answers
use Rattle.hub_tables.specs.declared.cases.Arrival.TheVariants.{Announced}
use Rattle.hub_tables.specs.declared.cases.MailKind.{MailKind}
use Rattle.hub_tables.specs.declared.cases.MailKind.TheVariants as kinds
use Rattle.hub_tables.specs.declared.cases.Side.{Side}
use Rattle.hub_tables.specs.declared.cases.Side.TheVariants as sides
use Rattle.hub_tables.specs.declared.change.Change.{Change}
use Rattle.hub_tables.specs.declared.change.Change.TheVariants.{AddOrder, SetLine, AddAdvice, AddPallet, SetPallet}
use Rattle.hub_tables.specs.declared.change.Change.TheVariants.{AddContent, Remember}
use Rattle.hub_tables.specs.declared.rows.LineRow.{LineRow}
use Rattle.hub_tables.specs.declared.rows.PalletRow.{PalletRow}
use Rattle.hub_tables.specs.declared.rows.RememberedRow.{RememberedRow}
use Rattle.hub_tables.proofs.Lists.{all_filter, all_found, all_weaker}
use Rattle.hub_store.specs.Clean.{is_within, is_number, is_line, is_quantity, is_answer, is_kind, is_arrival, are_bytes}
use Rattle.hub_store.specs.Clean.{clean_line, clean_pallet, clean_remembered}
use Rattle.hub_rules.specs.CancellationRules.{judge_new_cancel}
use Rattle.hub_rules.specs.DespatchRules.{placed, judge_despatched, judge_unit, judge_new_despatch}
use Rattle.hub_rules.specs.Judging.{Judge, gives, in_turn, in_order}
use Rattle.hub_rules.specs.MailboxRules.{is_full, new_mail}
use Rattle.hub_rules.specs.OrderRules.{new_line, judge_new_order}
use Rattle.hub_rules.specs.PartyRules.{is_other_buyer}
use Rattle.hub_rules.specs.ReceiptRules.{gtins, total, new_receipt, arrival_by, cleared, judge_received, judge_new_receipt}
use Rattle.hub_rules.specs.RepeatRules.{Reference, remembered, once, judge_once}
use Rattle.hub_rules.specs.ResponseRules.{answered, is_out_of_range, judge_answer, waiting, is_empty, judge_all}
use Rattle.hub_rules.specs.ResponseRules.{judge_answers, judge_new_response}
use Rattle.hub_rules.specs.Rules.{referred_by, judge_message, judge_order, judge_response, judge_despatch}
use Rattle.hub_rules.specs.Rules.{judge_receipt, judge_cancel}
use Rattle.hub_rules.specs.declared.code.Code.TheVariants as codes
use Rattle.hub_rules.specs.declared.cancel.Cancel.{Cancel}
use Rattle.hub_rules.specs.declared.incoming.IncomingMessage.{IncomingMessage}
use Rattle.hub_rules.specs.declared.verdict.Verdict.{Verdict}
use Rattle.hub_rules.specs.declared.verdict.Verdict.TheVariants.{Accept, Refuse}
use Rattle.hub_rules.proofs.GoodRows.{line_found}
use Rattle.hub_rules.proofs.Verdicts.{not_refused, was_given}
use Rattle.hub_rules.proofs.Totalled.{all_gtins}
use Rattle.hub_clean.specs.Clean.{WithinIncoming, WithinOrderLine, WithinOrder, WithinUnit, WithinDespatch}
use Rattle.hub_clean.specs.Clean.{WithinReceiptLine, WithinReceiptUnit, WithinReceipt}
use Rattle.hub_clean.proofs.CleanRows.{CleanRows, CleanChange}
use Rattle.hub_clean.proofs.CleanVerdicts.{CleanChanges, Cleans, accepted, cleans_rest, cleans_in_order}

le_true : (a b : ℕ) → a ≤ b → nat_le a b ≡ true
le_true a b h = grind (arith, nat_tests)

-- The checks before those of a message itself.

pub once_cases : (row : Option RememberedRow) (content : List ℕ) (fresh : Verdict) (changes : List Change) →
    once row content fresh ≡ Accept changes → (◌≡◌ {A = Verdict} (Accept []) (Accept changes)) ⊎
    (fresh ≡ Accept changes)
once_cases None content fresh changes h = inr h
once_cases (Some row) content fresh changes h =
    elim (same row.content content) as
    (λ v. ◌≡◌ {A = Verdict} (cond v (Accept []) (Refuse codes.OtherContent)) (Accept changes) →
    (◌≡◌ {A = Verdict} (Accept []) (Accept changes)) ⊎ (fresh ≡ Accept changes)) [
      | true ↦ λ g. inl g
      | false ↦ λ g. cc
    ] h

cleans_once : (r : Reference) (content : List ℕ) (fresh : Judge) → clean_remembered (remembered r content) ≡ true
    → Cleans fresh →
    Cleans (judge_once r content fresh)
cleans_once r content fresh clean f state changes rows h =
    elim (once_cases (remembered_of state r.side r.control r.message) content (in_turn (gives (Remember
    (remembered r content) ∷ [])) fresh state) changes h) [
      | inl e ↦ accepted [] changes e tt
      | inr g ↦ cleans_rest (Remember (remembered r content) ∷ []) fresh state changes rows (clean, tt) f g
    ]

module _ (s : SupplierRow) (gln : is_gln s.gln ≡ true) where
  cleans_message : (retailer : List ℕ) (side : Side) (incoming : IncomingMessage) (buyer : Option (List ℕ))
      (named : List ℕ)
      (rest : SupplierRow → Judge) → clean_remembered
      (remembered (referred_by s side incoming) incoming.content) ≡ true →
      Cleans (rest s) → Cleans (judge_message retailer (Some s) side incoming buyer named rest)
  cleans_message retailer side incoming buyer named rest clean f state changes rows h =
      let a = not_refused (is_other_buyer retailer buyer) codes.Buyer _ changes h in
      let b = not_refused (not (same named s.gln)) codes.Supplier _ changes a.1 in
      cleans_once (referred_by s side incoming) incoming.content (rest s) clean f state changes rows b.1

  retailers : (incoming : IncomingMessage) → WithinIncoming incoming →
      clean_remembered (remembered (referred_by s sides.Retailer incoming) incoming.content) ≡ true
  retailers incoming within =
      and_from _ _ gln (and_from _ _ refl (and_from _ _ within.control (and_from _ _ within.message within.content)))

  suppliers : (incoming : IncomingMessage) → WithinIncoming incoming →
      clean_remembered (remembered (referred_by s sides.Supplier incoming) incoming.content) ≡ true
  suppliers incoming within =
      and_from _ _ gln (and_from _ _ refl (and_from _ _ within.control (and_from _ _ within.message within.content)))

  -- A mailbox entry.

  number_within : (n : ℕ) → nat_lt last_number (n + 1) ≡ false → is_within 1 last_number (n + 1) ≡ true
  number_within n h = and_from _ _ (le_true 1 (n + 1) (omega arith))
      (le_true (n + 1) last_number (grind (arith, nat_tests)))

  clean_new_mail : (state : Tables) (incoming : IncomingMessage) (kind : MailKind) (document body : List ℕ)
      → WithinIncoming incoming →
      is_full (length state.mail) ≡ false → is_number document ≡ true → are_bytes body ≡ true →
      CleanChange (new_mail s.gln state incoming kind document body)
  clean_new_mail state incoming kind document body within room number bytes =
      and_from _ _ gln (and_from _ _ (number_within (length state.mail) room)
      (and_from _ _ (le_true incoming.moment last_moment within.moment)
      (and_from _ _ within.decimal (and_from _ _ (known kind) (and_from _ _ number (and_from _ _ bytes refl))))))
    where
      known : (kind : MailKind) → is_kind (Rattle.hub_tables.specs.Cases.kind_letter kind) ≡ true
      known kinds.Orders = refl
      known kinds.Receipt = refl

  -- Orders.

  clean_new_line : (number : List ℕ) (line : OrderLine) → is_number number ≡ true → WithinOrderLine line →
      CleanChange (new_line s.gln number line)
  clean_new_line number line named within =
      and_from _ _ gln (and_from _ _ named
      (and_from _ _ within.number (and_from _ _ within.item (and_from _ _ within.quantity (and_from _ _ (le_true
      (line.quantity + 0 + 0) line.quantity (omega arith)) refl)))))

  clean_new_lines : (number : List ℕ) (lines : List OrderLine) → is_number number ≡ true
      → AllByRecursion WithinOrderLine lines →
      CleanChanges (map (new_line s.gln number) lines)
  clean_new_lines number [] named all = tt
  clean_new_lines number (line ∷ lines) named all =
      (clean_new_line number line named all.0, clean_new_lines number lines named all.1)

  cleans_new_order : (incoming : IncomingMessage) (body : List ℕ) (order : Order) → WithinIncoming incoming
      → are_bytes body ≡ true →
      WithinOrder order → Cleans (judge_new_order s.gln incoming body order)
  cleans_new_order incoming body order within bytes fine state changes rows h =
      let a = not_refused (knows_order state order.number) codes.OrderKnown _ changes h in
      let b = not_refused (is_full (length state.mail)) codes.MailboxFull _ changes a.1 in
      accepted (new_mail s.gln state incoming kinds.Orders order.number body ∷ AddOrder (record {
        supplier = s.gln;
        number = order.number;
      }) ∷ map (new_line s.gln order.number) order.lines) changes b.1 (
        clean_new_mail state incoming kinds.Orders order.number body within b.0 fine.number bytes,
        (and_from _ _ gln fine.number, clean_new_lines order.number order.lines fine.number fine.lines),
      )

  pub cleans_order : (retailer : List ℕ) (incoming : IncomingMessage) (body : List ℕ) (order : Order)
      → WithinIncoming incoming →
      are_bytes body ≡ true → WithinOrder order → Cleans (judge_order retailer (Some s) incoming body order)
  cleans_order retailer incoming body order within bytes fine =
      cleans_message retailer sides.Retailer incoming (Some order.buyer) order.supplier
      (λ s. judge_new_order s.gln incoming body order)
      (retailers incoming within) (cleans_new_order incoming body order within bytes fine)

-- Lines that change.

module _ (line : LineRow) (clean : clean_line line ≡ true) where
  changed_line : (open_qty refused cancelled answer : ℕ) →
      (nat_le (line.open_qty + line.refused + line.cancelled) line.ordered ≡ true →
      nat_le (open_qty + refused + cancelled) line.ordered ≡ true) →
      (is_answer line.answer ≡ true → is_answer answer ≡ true) →
      clean_line (record {
        supplier = line.supplier;
        number = line.number;
        line = line.line;
        gtin = line.gtin;
        ordered = line.ordered;
        open_qty = open_qty;
        refused = refused;
        cancelled = cancelled;
        answer = answer;
      }) ≡ true
  changed_line open_qty refused cancelled answer covered known =
      let a = and_parts (is_gln line.supplier) _ clean in
      let b = and_parts (is_number line.number) _ a.1 in
      let c = and_parts (is_line line.line) _ b.1 in
      let d = and_parts (is_key 14 line.gtin) _ c.1 in
      let e = and_parts (is_quantity line.ordered) _ d.1 in
      let f = and_parts (nat_le (line.open_qty + line.refused + line.cancelled) line.ordered)
      (is_answer line.answer) e.1 in
      and_from _ _ a.0 (and_from _ _ b.0
      (and_from _ _ c.0 (and_from _ _ d.0 (and_from _ _ e.0 (and_from _ _ (covered f.0) (known f.1))))))

  less_open : (quantity : ℕ) → clean_line (record line { open_qty = line.open_qty - quantity }) ≡ true
  less_open quantity = changed_line (line.open_qty - quantity) line.refused line.cancelled line.answer
      (λ h. grind (arith, nat_tests))
      (λ h. h)

  clean_answered : (answer : LineAnswer) (sent : ℕ) → is_out_of_range answer sent line ≡ false →
      clean_line (answered answer sent line) ≡ true
  clean_answered Accepted sent range =
      changed_line line.open_qty line.refused line.cancelled (answer_letter answers.Accepted) (λ h. h)
      (λ h. refl)
  clean_answered Refused sent range =
      changed_line 0 (line.refused + line.open_qty) line.cancelled (answer_letter answers.NotAccepted)
      (λ h. grind (arith, nat_tests)) (λ h. refl)
  clean_answered (Changed quantity) sent range =
      let within = or_parts (nat_lt quantity sent) (nat_lt (sent + line.open_qty) quantity) range in
      changed_line (quantity - sent) (line.refused + (line.open_qty - (quantity - sent))) line.cancelled
      (answer_letter answers.Changed)
      (λ h. grind (arith, nat_tests)) (λ h. refl)

  clean_cancelled : (quantity : ℕ) → nat_lt line.open_qty quantity ≡ false →
      clean_line (record line { open_qty = line.open_qty - quantity; cancelled = line.cancelled + quantity }) ≡ true
  clean_cancelled quantity enough =
      changed_line (line.open_qty - quantity) line.refused (line.cancelled + quantity) line.answer
      (λ h. grind (arith, nat_tests)) (λ h. h)

clean_found : (state : Tables) (order : List ℕ) (number : Option ℕ) (gtin : List ℕ) (line : LineRow) → CleanRows state →
    line_of state order number gtin ≡ Some line → clean_line line ≡ true
clean_found state order number gtin line rows h =
    line_found (λ line. clean_line line ≡ true) state order number gtin line rows.lines h

-- Answers.

cleans_answer : (order : List ℕ) (said : AnswerLine) → Cleans (judge_answer order said)
cleans_answer order said state changes rows h =
    let found = was_given (line_of state order said.order_line said.gtin) codes.NoLine _ changes h in
    let line = found.0 in
    let a = not_refused (not (waits line)) codes.NotWaiting _ changes found.2 in
    let b = not_refused (is_out_of_range said.answer (despatched state line) line) codes.OutOfRange _ changes a.1 in
    let c = not_refused (not (same line.gtin said.gtin)) codes.OtherArticle _ changes b.1 in
    accepted (SetLine (answered said.answer (despatched state line) line) ∷ []) changes c.1 (
      clean_answered line (clean_found state order said.order_line said.gtin line rows found.1) said.answer
          (despatched state line) b.0,
      tt,
    )

all_answered : (answer : LineAnswer) → ((line : LineRow) → is_out_of_range answer 0 line ≡ false) →
    (lines : List LineRow) →
    AllByRecursion (λ line. clean_line line ≡ true) lines → CleanChanges (map (λ line. SetLine (answered answer 0 line)) lines)
all_answered answer range [] all = tt
all_answered answer range (line ∷ lines) all =
    (clean_answered line all.0 answer 0 (range line), all_answered answer range lines all.1)

cleans_all : (answer : LineAnswer) (order : List ℕ) → ((line : LineRow) → is_out_of_range answer 0 line ≡ false) →
    Cleans (judge_all answer order)
cleans_all answer order range state changes rows h =
    let a = not_refused (is_empty (waiting state order)) codes.NotWaiting _ changes h in
    let clean = all_filter (λ line. clean_line line ≡ true) waits (lines_of state order)
    (all_filter (λ line. clean_line line ≡ true)
    (λ line. same line.number order) state.lines rows.lines) in
    accepted (map (λ line. SetLine (answered answer 0 line)) (waiting state order)) changes a.1
    (all_answered answer range
    (waiting state order) clean)

every_answer : (order : List ℕ) (lines : List AnswerLine) → AllByRecursion
    (λ line. Cleans (judge_answer order line)) lines
every_answer order [] = tt
every_answer order (line ∷ lines) = (cleans_answer order line, every_answer order lines)

cleans_answers : (answer : Answer) (order : List ℕ) → Cleans (judge_answers answer order)
cleans_answers AllAccepted order = cleans_all Accepted order (λ line. refl)
cleans_answers AllRefused order = cleans_all Refused order (λ line. refl)
cleans_answers (Lines lines) order = cleans_in_order (judge_answer order) lines (every_answer order lines)

cleans_new_response : (response : Response) → Cleans (judge_new_response response)
cleans_new_response response state changes rows h =
    let a = not_refused (not (knows_order state response.order)) codes.NoOrder _ changes h in
    cleans_answers response.answer response.order state changes rows a.1

pub cleans_response : (s : SupplierRow) → is_gln s.gln ≡ true → (retailer : List ℕ) (incoming : IncomingMessage)
    (response : Response) →
    WithinIncoming incoming → Cleans (judge_response retailer (Some s) incoming response)
cleans_response s gln retailer incoming response within =
    cleans_message s gln retailer sides.Supplier incoming (Some response.buyer) response.supplier
    (λ s. judge_new_response response)
    (suppliers s gln incoming within) (cleans_new_response response)

-- Cancellations.

cleans_new_cancel : (cancel : Cancel) → Cleans (judge_new_cancel cancel)
cleans_new_cancel cancel state changes rows h =
    let a = not_refused (not (knows_order state cancel.order)) codes.NoOrder _ changes h in
    let found = was_given (line_of state cancel.order (Some cancel.line) []) codes.NoLine _ changes a.1 in
    let line = found.0 in
    let b = not_refused (nat_lt line.open_qty cancel.quantity) codes.CancelsMoreThanOpen _ changes found.2 in
    accepted (SetLine (record line {
      open_qty = line.open_qty - cancel.quantity;
      cancelled = line.cancelled + cancel.quantity;
    }) ∷ []) changes b.1 (
      clean_cancelled line (clean_found state cancel.order (Some cancel.line) [] line rows found.1) cancel.quantity b.0,
      tt,
    )

pub cleans_cancel : (s : SupplierRow) → is_gln s.gln ≡ true → (content : List ℕ) (cancel : Cancel) →
    is_reference cancel.reference ≡ true → are_bytes content ≡ true → Cleans (judge_cancel (Some s) content cancel)
cleans_cancel s gln content cancel named bytes state changes rows h =
    let a = not_refused (not (same cancel.supplier s.gln)) codes.Supplier _ changes h in
    let reference : Reference =
    record { supplier = s.gln; side = sides.Cancellation; control = cancel.reference; message = [] } in
    let clean : clean_remembered (remembered reference content) ≡ true = and_from _ _ gln (and_from _ _ refl (and_from _ _ named
    (and_from _ _ refl bytes))) in
    cleans_once reference content (judge_new_cancel cancel) clean (cleans_new_cancel cancel) state changes rows a.1

-- Despatches.

abbrev WithinPlaced : ℕ × DespatchLine → Type 0
WithinPlaced (place, line) = (is_within 1 999_999 place ≡ true) × (is_quantity line.quantity ≡ true)

placed_within : (n : ℕ) (lines : List DespatchLine) → n + length lines ≤ 999_999 →
    AllByRecursion (λ line. is_quantity line.quantity ≡ true) lines → AllByRecursion WithinPlaced (placed n lines)
placed_within n [] most all = tt
placed_within n (line ∷ lines) most all = (
  (and_from _ _ (le_true 1 (n + 1) (omega arith)) (le_true (n + 1) 999_999 (omega (arith, most))), all.0),
  placed_within (n + 1) lines
      (omega (arith, most)) all.1,
)

module _ (sscc : List ℕ) (key : is_key 18 sscc ≡ true) where
  cleans_despatched : (line : ℕ × DespatchLine) → WithinPlaced line → Cleans (judge_despatched sscc line)
  cleans_despatched (place, said) within state changes rows h =
      let a = not_refused (not (knows_order state said.order)) codes.NoOrder _ changes h in
      let found = was_given (line_of state said.order said.order_line said.gtin) codes.NoLine _ changes a.1 in
      let line = found.0 in
      let b = not_refused (not (same line.gtin said.gtin)) codes.OtherArticle _ changes found.2 in
      let c = not_refused (nat_lt line.open_qty said.quantity) codes.MoreThanOpen _ changes b.1 in
      let clean = clean_found state said.order said.order_line said.gtin line rows found.1 in
      let number = and_parts (is_number line.number) _ (and_parts (is_gln line.supplier) _ clean).1 in
      let n = and_parts (is_line line.line) _ number.1 in
      accepted (
      SetLine (record line { open_qty = line.open_qty - said.quantity })
      ∷ AddContent (record {
        sscc = sscc;
        place = place;
        number = line.number;
        line = line.line;
        quantity =
            said.quantity;
      })
      ∷ []) changes c.1 (
        less_open line clean said.quantity,
        (and_from _ _ key (and_from _ _ within.0 (and_from _ _ number.0 (and_from _ _ n.0 within.1))), tt),
      )

  every_line : (lines : List (ℕ × DespatchLine)) → AllByRecursion WithinPlaced lines →
      AllByRecursion (λ line. Cleans (judge_despatched sscc line)) lines
  every_line [] all = tt
  every_line (line ∷ lines) all = (cleans_despatched line all.0, every_line lines all.1)

module _ (s : SupplierRow) (gln : is_gln s.gln ≡ true) (used : List ℕ → Bool) (advice : List ℕ)
    (named : is_number advice ≡ true) where
  cleans_unit : (unit : Unit) → WithinUnit unit → Cleans (judge_unit s used advice unit)
  cleans_unit unit within state changes rows h =
      let a = not_refused (not (under_some unit.sscc s.prefixes)) codes.OtherPrefix _ changes h in
      let b = not_refused (used unit.sscc || has_pallet state unit.sscc) codes.SsccUsed _ changes a.1 in
      let row : PalletRow = record {
        sscc = unit.sscc;
        supplier = s.gln;
        advice = advice;
        received = arrival_number
            Announced;
      } in
      cleans_rest (AddPallet row ∷ []) (in_order (judge_despatched unit.sscc) (placed 0 unit.lines)) state changes rows
      (and_from _ _ within.sscc (and_from _ _ gln (and_from _ _ named refl)), tt)
      (cleans_in_order (judge_despatched unit.sscc) (placed 0 unit.lines)
      (every_line unit.sscc within.sscc (placed 0 unit.lines)
      (placed_within 0 unit.lines (omega (arith, within.places)) within.quantities))) b.1

  every_unit : (units : List Unit) → AllByRecursion WithinUnit units → AllByRecursion
      (λ unit. Cleans (judge_unit s used advice unit)) units
  every_unit [] all = tt
  every_unit (unit ∷ units) all = (cleans_unit unit all.0, every_unit units all.1)

module _ (s : SupplierRow) (gln : is_gln s.gln ≡ true) where
  cleans_new_despatch : (used : List ℕ → Bool) (despatch : Despatch) → WithinDespatch despatch → Cleans
      (judge_new_despatch s used despatch)
  cleans_new_despatch used despatch fine state changes rows h =
      let a = not_refused (knows_advice state despatch.number) codes.AdviceKnown _ changes h in
      cleans_rest (AddAdvice (record { supplier = s.gln; number = despatch.number }) ∷ []) (in_order
      (judge_unit s used despatch.number) despatch.units) state changes rows
      (and_from _ _ gln fine.number, tt) (cleans_in_order (judge_unit s used despatch.number) despatch.units
      (every_unit s gln used despatch.number fine.number despatch.units fine.units)) a.1

  pub cleans_despatch : (retailer : List ℕ) (used : List ℕ → Bool) (incoming : IncomingMessage) (despatch : Despatch) →
      WithinIncoming incoming → WithinDespatch despatch → Cleans
      (judge_despatch retailer (Some s) used incoming despatch)
  cleans_despatch retailer used incoming despatch within fine =
      cleans_message s gln retailer sides.Supplier incoming despatch.buyer despatch.supplier
      (λ s. judge_new_despatch s used despatch)
      (suppliers s gln incoming within) (cleans_new_despatch used despatch fine)

-- Receipts.

module _ (unit : ReceiptUnit) (within : WithinReceiptUnit unit) where
  clean_receipts : (items : List (List ℕ)) → AllByRecursion
      (λ gtin. CleanChange (new_receipt unit.sscc unit.lines gtin)) items →
      CleanChanges (map (new_receipt unit.sscc unit.lines) items)
  clean_receipts [] all = tt
  clean_receipts (item ∷ items) all = (all.0, clean_receipts items all.1)

  clean_item : (line : ReceiptLine) → WithinReceiptLine unit.lines line → CleanChange
      (new_receipt unit.sscc unit.lines line.gtin)
  clean_item line fine =
      and_from _ _ within.sscc (and_from _ _ fine.item (and_from _ _ (le_true (total
      (λ line. line.accepted) line.gtin unit.lines) greatest fine.accepted)
      (and_from _ _ (le_true (total (λ line. line.returned) line.gtin unit.lines) greatest fine.returned) (le_true (total
      (λ line. line.destroyed) line.gtin unit.lines) greatest fine.destroyed))))

  clean_arrived : (pallet : PalletRow) → clean_pallet pallet ≡ true →
      (replaces : Bool) → clean_pallet (record pallet { received = arrival_number (arrival_by replaces) }) ≡ true
  clean_arrived pallet clean replaces =
      let a = and_parts (is_key 18 pallet.sscc) _ clean in
      let b = and_parts (is_gln pallet.supplier) _ a.1 in
      let c = and_parts (is_number pallet.advice) (is_arrival pallet.received) b.1 in
      and_from _ _ a.0 (and_from _ _ b.0 (and_from _ _ c.0 (arrived replaces)))
    where
      arrived : (replaces : Bool) → is_arrival (arrival_number (arrival_by replaces)) ≡ true
      arrived true = refl
      arrived false = refl

  clean_cleared : (replaces : Bool) (later : List Change) → CleanChanges later → CleanChanges (cleared replaces unit.sscc ++ later)
  clean_cleared true later clean = (tt, clean)
  clean_cleared false later clean = clean

  cleans_received : (replaces : Bool) → Cleans (judge_received replaces unit)
  cleans_received replaces state changes rows h =
      let found = was_given (pallet_of state unit.sscc) codes.NoPallet _ changes h in
      let pallet = found.0 in
      let a = not_refused (not replaces && not (is_announced pallet)) codes.PalletReceived _ changes found.2 in
      let clean = (all_found (λ pallet. clean_pallet pallet ≡ true)
      (λ pallet. same pallet.sscc unit.sscc) state.pallets pallet rows.pallets found.1).0 in
      let items = all_weaker (WithinReceiptLine unit.lines) (λ line. CleanChange
      (new_receipt unit.sscc unit.lines line.gtin)) clean_item unit.lines within.lines in
      accepted (SetPallet (record pallet { received = arrival_number (arrival_by replaces) }) ∷ cleared replaces unit.sscc ++ map
      (new_receipt unit.sscc unit.lines)
      (gtins unit.lines)) changes a.1 (
        clean_arrived pallet clean replaces,
        clean_cleared replaces (map (new_receipt unit.sscc unit.lines) (gtins unit.lines))
            (clean_receipts (gtins unit.lines) (all_gtins (λ gtin. CleanChange
            (new_receipt unit.sscc unit.lines gtin)) unit.lines items)),
      )

every_receipt : (replaces : Bool) (units : List ReceiptUnit) → AllByRecursion WithinReceiptUnit units →
    AllByRecursion (λ unit. Cleans (judge_received replaces unit)) units
every_receipt replaces [] all = tt
every_receipt replaces (unit ∷ units) all = (cleans_received unit all.0 replaces, every_receipt replaces units all.1)

module _ (s : SupplierRow) (gln : is_gln s.gln ≡ true) where
  cleans_new_receipt : (incoming : IncomingMessage) (body : List ℕ) (receipt : Receipt) → WithinIncoming incoming →
      are_bytes body ≡ true → WithinReceipt receipt → Cleans (judge_new_receipt s.gln incoming body receipt)
  cleans_new_receipt incoming body receipt within bytes fine state changes rows h =
      let a = not_refused (is_full (length state.mail)) codes.MailboxFull _ changes h in
      cleans_rest (new_mail s.gln state incoming kinds.Receipt receipt.number body ∷ [])
      (in_order (judge_received receipt.replaces) receipt.units) state changes rows
      (clean_new_mail s gln state incoming kinds.Receipt receipt.number body within a.0 fine.number bytes, tt)
      (cleans_in_order (judge_received receipt.replaces) receipt.units (every_receipt receipt.replaces receipt.units fine.units)) a.1

  pub cleans_receipt : (retailer : List ℕ) (incoming : IncomingMessage) (body : List ℕ) (receipt : Receipt)
      → WithinIncoming incoming →
      are_bytes body ≡ true → WithinReceipt receipt → Cleans (judge_receipt retailer (Some s) incoming body receipt)
  cleans_receipt retailer incoming body receipt within bytes fine =
      cleans_message s gln retailer sides.Retailer incoming receipt.buyer receipt.supplier
      (λ s. judge_new_receipt s.gln incoming body receipt) (retailers s gln incoming within)
      (cleans_new_receipt incoming body receipt within bytes fine)

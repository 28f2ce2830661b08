-- Shows that what the rules accept sets only existing rows.
use Rattle.std.proofs.Common.{◌≡◌, ℕ, ◌-◌, ◌+◌, ◌==◌, nat_lt, Bool, true, false, cond, not, ◌&&◌, ◌||◌, inl, inr, List, [], ◌∷◌, ◌++◌}
use Rattle.std.proofs.Common.{map, filter, length, Option, Some, refl, sym, subst, ap, ◌∙◌}
use Rattle.std.specs.List.{AllByRecursion, list_any}
use Rattle.std.proofs.lemmas.Bool.{and_parts, and_from, or_cases, or_left, or_right, eq-eqb, eqb-true}
use Rattle.gs1_ids.specs.Overlap.{PrefixFree}
use Rattle.gs1_ids.specs.Sscc.{under_some}
use Rattle.edi_orders.specs.declared.order.Order.{Order}
use Rattle.edi_orders.specs.declared.order.OrderLine.{OrderLine}
use Rattle.edi_orders.specs.declared.response.Answer.{Answer}
use Rattle.edi_orders.specs.declared.response.Answer.TheVariants.{AllAccepted, AllRefused, Lines}
use Rattle.edi_orders.specs.declared.response.AnswerLine.{AnswerLine}
use Rattle.edi_orders.specs.declared.response.LineAnswer.{LineAnswer}
use Rattle.edi_orders.specs.declared.response.LineAnswer.TheVariants.{Accepted, Refused, Changed}
use Rattle.edi_orders.specs.declared.response.Response.{Response}
use Rattle.edi_goods.specs.declared.despatch.Despatch.{Despatch}
use Rattle.edi_goods.specs.declared.despatch.DespatchLine.{DespatchLine}
use Rattle.edi_goods.specs.declared.despatch.Unit.{Unit}
use Rattle.edi_goods.specs.declared.receipt.Receipt.{Receipt}
use Rattle.edi_goods.specs.declared.receipt.ReceiptUnit.{ReceiptUnit}
use Rattle.hub_parties.specs.KeyOrder.{replace}
use Rattle.hub_parties.specs.Rows.{company_prefixes, supplier_row}
use Rattle.hub_parties.specs.declared.row.SupplierRow.{SupplierRow}
use Rattle.hub_tables.specs.Cases.{arrival_number, truth_number}
use Rattle.hub_tables.specs.Change.{apply, apply_all}
use Rattle.hub_tables.specs.Register.{prefix_changes, row_changes}
use Rattle.hub_tables.specs.Rows.{same, same_key, same_line, same_pallet, same_mail}
use Rattle.hub_tables.specs.State.{knows_order, knows_advice, lines_of, line_of, despatched, waits, pallet_of}
use Rattle.hub_tables.specs.State.{is_announced, remembered_of, entry_at, is_taken}
use Rattle.hub_tables.specs.Tables.{Tables, has_pallet, view}
use Rattle.hub_tables.specs.declared.cases.Arrival.TheVariants.{Announced}
use Rattle.hub_tables.specs.declared.cases.MailKind.TheVariants as kinds
use Rattle.hub_tables.specs.declared.cases.Side.{Side}
use Rattle.hub_tables.specs.declared.cases.Side.TheVariants as sides
use Rattle.hub_tables.specs.declared.change.Change.{Change}
use Rattle.hub_tables.specs.declared.change.Change.TheVariants.{AddOrder, SetLine, AddAdvice, AddPallet, SetPallet, AddContent}
use Rattle.hub_tables.specs.declared.change.Change.TheVariants.{SetHub, AddKey, SetKey, AddPrefix, Remember, SetMail}
use Rattle.hub_tables.specs.declared.rows.LineRow.{LineRow}
use Rattle.hub_tables.specs.declared.rows.MailRow.{MailRow}
use Rattle.hub_tables.specs.declared.rows.PalletRow.{PalletRow}
use Rattle.hub_tables.proofs.Lists.{all_filter, all_found, all_weaker, any_replaced, same_is, same_if}
use Rattle.hub_store.specs.Calls.{has_place, have_places}
use Rattle.hub_rules.specs.CancellationRules.{judge_new_cancel}
use Rattle.hub_rules.specs.DespatchRules.{placed, judge_despatched, judge_unit, judge_new_despatch}
use Rattle.hub_rules.specs.Judging.{Judge, gives, goes_on, in_turn, in_order}
use Rattle.hub_rules.specs.Laws.{Registered}
use Rattle.hub_rules.specs.MailboxRules.{is_full, new_mail}
use Rattle.hub_rules.specs.OrderRules.{new_line, judge_new_order}
use Rattle.hub_rules.specs.PartyRules.{is_other_buyer}
use Rattle.hub_rules.specs.ReceiptRules.{gtins, new_receipt, arrival_by, cleared, judge_received, judge_new_receipt}
use Rattle.hub_rules.specs.RepeatRules.{Reference, remembered, judge_once}
use Rattle.hub_rules.specs.ResponseRules.{answered, is_out_of_range, judge_answer, waiting, is_empty, judge_all}
use Rattle.hub_rules.specs.ResponseRules.{judge_answers, judge_new_response}
use Rattle.hub_rules.specs.Rules.{referred_by, cancelled_by, judge_message, judge_order, judge_response, judge_despatch}
use Rattle.hub_rules.specs.Rules.{judge_receipt, judge_cancel}
use Rattle.hub_rules.specs.Sound.{Rooted}
use Rattle.hub_rules.specs.declared.code.Code.TheVariants as codes
use Rattle.hub_rules.specs.declared.cancel.Cancel.{Cancel}
use Rattle.hub_rules.specs.declared.incoming.IncomingMessage.{IncomingMessage}
use Rattle.hub_rules.specs.declared.verdict.Verdict.{Verdict}
use Rattle.hub_rules.specs.declared.verdict.Verdict.TheVariants.{Accept, Refuse}
use Rattle.hub_rules.proofs.Belonging.{BelongAll}
use Rattle.hub_rules.proofs.Changes.{seen, rooted_after}
use Rattle.hub_rules.proofs.GoodRows.{line_found}
use Rattle.hub_rules.proofs.KeptByCancels.{leads_cancel}
use Rattle.hub_rules.proofs.KeptByDespatches.{leads_despatch}
use Rattle.hub_rules.proofs.KeptByReceipts.{leads_receipt}
use Rattle.hub_rules.proofs.KeptByResponses.{leads_response}
use Rattle.hub_rules.proofs.OwnChanges.{good_view}
use Rattle.hub_rules.proofs.Verdicts.{not_refused, was_given, joined_rest}
use Rattle.hub_law.specs.Requests.{taking}
use Rattle.hub_clean.proofs.CleanJudges.{once_cases}

-- what the judge accepts sets only existing rows
abbrev Places : Judge → Type 0
Places judge = (state : Tables) (changes : List Change) → judge state ≡ Accept changes → have_places changes state ≡ true

accepted : (given changes : List Change) (state : Tables)
    → ◌≡◌ {A = Verdict} (Accept given) (Accept changes)
    → have_places given state ≡ true
    → have_places changes state ≡ true
accepted given changes state h there = let e : given ≡ changes = cc in subst (λ xs. have_places xs state ≡ true) e there

both_there : (a b : List Change) (state : Tables)
    → have_places a state ≡ true
    → have_places b (apply_all a state) ≡ true
    → have_places (a ++ b) state ≡ true
both_there [] b state first second = second
both_there (change ∷ a) b state first second =
    let parts = and_parts (has_place change state) (have_places a (apply change state)) first in
    and_from _ _ parts.0 (both_there a b (apply change state) parts.1 second)

-- the given changes, then what a judge decides on what they left
places_rest : (first : List Change) (second : Judge) (state : Tables) (changes : List Change)
    → have_places first state ≡ true
    → Places second
    → in_turn (gives first) second state ≡ Accept changes
    → have_places changes state ≡ true
places_rest first second state changes there f h =
    let rest = joined_rest first (second (apply_all first state)) changes h in
    subst (λ xs. have_places xs state ≡ true) rest.2
    (both_there first rest.0 state there (f (apply_all first state) rest.0 rest.1))

places_in_turn : (first second : Judge) → Places first → Places second → Places (in_turn first second)
places_in_turn first second f g state changes h =
    elim (first state) as (λ v. first state ≡ v → goes_on v second state ≡ Accept changes → have_places changes state ≡ true) [
      | Refuse code ↦ λ e rest. cc
      | Accept a ↦ λ e rest. places_rest a second state changes (f state a e) g rest
    ] refl h

places_in_order : {X : Type 0} (judge : X → Judge) → ((x : X) → Places (judge x)) → (xs : List X) → Places (in_order judge xs)
places_in_order judge f [] state changes h = accepted [] changes state h refl
places_in_order judge f (x ∷ xs) state changes h =
    places_in_turn (judge x) (in_order judge xs) (f x) (places_in_order judge f xs) state changes h

places_once : (r : Reference) (content : List ℕ) (fresh : Judge) → Places fresh → Places (judge_once r content fresh)
places_once r content fresh f state changes h =
    elim (once_cases (remembered_of state r.side r.control r.message) content (in_turn (gives (Remember
    (remembered r content) ∷ [])) fresh state) changes h) [
      | inl e ↦ accepted [] changes state e refl
      | inr g ↦ places_rest (Remember (remembered r content) ∷ []) fresh state changes refl f g
    ]

places_message : (s : SupplierRow) (retailer : List ℕ) (side : Side) (incoming : IncomingMessage) (buyer : Option (List ℕ))
    (named : List ℕ) (rest : SupplierRow → Judge)
    → Places (rest s)
    → Places (judge_message retailer (Some s) side incoming buyer named rest)
places_message s retailer side incoming buyer named rest f state changes h =
    let a = not_refused (is_other_buyer retailer buyer) codes.Buyer _ changes h in
    let b = not_refused (not (same named s.gln)) codes.Supplier _ changes a.1 in
    places_once (referred_by s side incoming) incoming.content (rest s) f state changes b.1

-- Lines.

-- a row has its own key
own_line : (line : LineRow) → same_line line line ≡ true
own_line line =
    and_from _ _ (same_if line.supplier line.supplier refl)
    (and_from _ _ (same_if line.number line.number refl) (eq-eqb line.line line.line refl))

own_lines : (lines : List LineRow) → AllByRecursion (λ line. list_any (same_line line) lines ≡ true) lines
own_lines [] = tt
own_lines (line ∷ lines) = (
  or_left _ _ (own_line line),
  all_weaker (λ one. list_any (same_line one) lines ≡ true) (λ one. list_any (same_line one) (line ∷ lines) ≡ true)
      (λ one h. or_right (same_line one line) _ h) lines (own_lines lines),
)

found_there : (state : Tables) (order : List ℕ) (number : Option ℕ) (gtin : List ℕ) (line : LineRow)
    → line_of state order number gtin ≡ Some line
    → list_any (same_line line) state.lines ≡ true
found_there state order number gtin line h =
    line_found (λ line. list_any (same_line line) state.lines ≡ true) state order number gtin line (own_lines state.lines) h

-- a row with the same key replaces the same row
alike : (row set old : LineRow) → same_line set old ≡ true → same_line row old ≡ same_line row set
alike row set old h =
    let a = and_parts (same old.supplier set.supplier) _ h in
    let b = and_parts (same old.number set.number) (old.line == set.line) a.1 in
    let supplier = same_is old.supplier set.supplier a.0 in
    let number = same_is old.number set.number b.0 in
    let line = eqb-true old.line set.line b.1 in
    ap (λ x. same x row.supplier && (same old.number row.number && (old.line == row.line))) supplier
    ∙ ap (λ x. same set.supplier row.supplier && (same x row.number && (old.line == row.line))) number
    ∙ ap (λ x. same set.supplier row.supplier && (same set.number row.number && (x == row.line))) line

still_there : (row set : LineRow) (lines : List LineRow)
    → list_any (same_line row) lines ≡ true
    → list_any (same_line row) (replace (same_line set) set lines) ≡ true
still_there row set lines h = any_replaced (same_line row) (same_line set) set lines (alike row set) ∙ h

-- lines that keep their keys are set one after another
module _ (with : LineRow → LineRow) (keeps : (line old : LineRow) → same_line (with line) old ≡ same_line line old) where
  place_with : (line : LineRow) (lines : List LineRow) → list_any (same_line (with line)) lines ≡ list_any (same_line line) lines
  place_with line [] = refl
  place_with line (old ∷ lines) =
      ap (λ v. v || list_any (same_line (with line)) lines) (keeps line old) ∙ ap (λ v. same_line line old || v) (place_with line lines)

  lines_set : (lines : List LineRow) (state : Tables)
      → AllByRecursion (λ line. list_any (same_line line) state.lines ≡ true) lines
      → have_places (map (λ line. SetLine (with line)) lines) state ≡ true
  lines_set [] state all = refl
  lines_set (line ∷ lines) state all =
      and_from _ _ (place_with line state.lines ∙ all.0)
      (lines_set lines (apply (SetLine (with line)) state)
      (all_weaker (λ one. list_any (same_line one) state.lines ≡ true)
      (λ one. list_any (same_line one) (replace (same_line (with line)) (with line) state.lines) ≡ true)
      (λ one h. still_there one (with line) state.lines h) lines all.1))

answered_keeps : (answer : LineAnswer) (sent : ℕ) (line old : LineRow)
    → same_line (answered answer sent line) old ≡ same_line line old
answered_keeps Accepted sent line old = refl
answered_keeps Refused sent line old = refl
answered_keeps (Changed quantity) sent line old = refl

-- Answers.

places_answer : (order : List ℕ) (said : AnswerLine) → Places (judge_answer order said)
places_answer order said state changes h =
    let found = was_given (line_of state order said.order_line said.gtin) codes.NoLine _ changes h in
    let line = found.0 in
    let sent = despatched state line in
    let a = not_refused (not (waits line)) codes.NotWaiting _ changes found.2 in
    let b = not_refused (is_out_of_range said.answer sent line) codes.OutOfRange _ changes a.1 in
    let c = not_refused (not (same line.gtin said.gtin)) codes.OtherArticle _ changes b.1 in
    let there = found_there state order said.order_line said.gtin line found.1 in
    accepted (SetLine (answered said.answer sent line) ∷ []) changes state c.1
    (and_from _ _ (place_with (answered said.answer sent) (answered_keeps said.answer sent) line state.lines ∙ there) refl)

places_all : (answer : LineAnswer) (order : List ℕ) → Places (judge_all answer order)
places_all answer order state changes h =
    let a = not_refused (is_empty (waiting state order)) codes.NotWaiting _ changes h in
    let there : LineRow → Type 0 = λ line. list_any (same_line line) state.lines ≡ true in
    let all = all_filter there waits (lines_of state order)
    (all_filter there (λ line. same line.number order) state.lines (own_lines state.lines)) in
    accepted (map (λ line. SetLine (answered answer 0 line)) (waiting state order)) changes state a.1
    (lines_set (answered answer 0) (answered_keeps answer 0) (waiting state order) state all)

places_answers : (answer : Answer) (order : List ℕ) → Places (judge_answers answer order)
places_answers AllAccepted order = places_all Accepted order
places_answers AllRefused order = places_all Refused order
places_answers (Lines lines) order = places_in_order (judge_answer order) (places_answer order) lines

places_new_response : (response : Response) → Places (judge_new_response response)
places_new_response response state changes h =
    let a = not_refused (not (knows_order state response.order)) codes.NoOrder _ changes h in
    places_answers response.answer response.order state changes a.1

-- Cancellations.

places_new_cancel : (cancel : Cancel) → Places (judge_new_cancel cancel)
places_new_cancel cancel state changes h =
    let a = not_refused (not (knows_order state cancel.order)) codes.NoOrder _ changes h in
    let found = was_given (line_of state cancel.order (Some cancel.line) []) codes.NoLine _ changes a.1 in
    let line = found.0 in
    let b = not_refused (nat_lt line.open_qty cancel.quantity) codes.CancelsMoreThanOpen _ changes found.2 in
    accepted (SetLine (record line {
      open_qty = line.open_qty - cancel.quantity;
      cancelled = line.cancelled + cancel.quantity;
    }) ∷ []) changes state b.1 (and_from _ _ (found_there state cancel.order (Some cancel.line) [] line found.1) refl)

-- Despatches.

places_despatched : (sscc : List ℕ) (line : ℕ × DespatchLine) → Places (judge_despatched sscc line)
places_despatched sscc (place, said) state changes h =
    let a = not_refused (not (knows_order state said.order)) codes.NoOrder _ changes h in
    let found = was_given (line_of state said.order said.order_line said.gtin) codes.NoLine _ changes a.1 in
    let line = found.0 in
    let b = not_refused (not (same line.gtin said.gtin)) codes.OtherArticle _ changes found.2 in
    let c = not_refused (nat_lt line.open_qty said.quantity) codes.MoreThanOpen _ changes b.1 in
    accepted (
    SetLine (record line { open_qty = line.open_qty - said.quantity })
    ∷ AddContent (record {
      sscc = sscc;
      place = place;
      number = line.number;
      line = line.line;
      quantity = said.quantity;
    })
    ∷ []) changes state c.1 (and_from _ _ (found_there state said.order said.order_line said.gtin line found.1) refl)

places_unit : (s : SupplierRow) (used : List ℕ → Bool) (advice : List ℕ) (unit : Unit) → Places (judge_unit s used advice unit)
places_unit s used advice unit state changes h =
    let a = not_refused (not (under_some unit.sscc s.prefixes)) codes.OtherPrefix _ changes h in
    let b = not_refused (used unit.sscc || has_pallet state unit.sscc) codes.SsccUsed _ changes a.1 in
    let row : PalletRow = record { sscc = unit.sscc; supplier = s.gln; advice = advice; received = arrival_number Announced } in
    places_rest (AddPallet row ∷ []) (in_order (judge_despatched unit.sscc) (placed 0 unit.lines)) state changes refl
    (places_in_order (judge_despatched unit.sscc) (places_despatched unit.sscc) (placed 0 unit.lines)) b.1

places_new_despatch : (s : SupplierRow) (used : List ℕ → Bool) (despatch : Despatch) → Places (judge_new_despatch s used despatch)
places_new_despatch s used despatch state changes h =
    let a = not_refused (knows_advice state despatch.number) codes.AdviceKnown _ changes h in
    places_rest (AddAdvice (record { supplier = s.gln; number = despatch.number }) ∷ [])
    (in_order (judge_unit s used despatch.number) despatch.units) state changes refl
    (places_in_order (judge_unit s used despatch.number) (places_unit s used despatch.number) despatch.units) a.1

-- Receipts.

new_receipts : (sscc : List ℕ) (unit : ReceiptUnit) (items : List (List ℕ)) (state : Tables)
    → have_places (map (new_receipt sscc unit.lines) items) state ≡ true
new_receipts sscc unit [] state = refl
new_receipts sscc unit (item ∷ items) state = new_receipts sscc unit items (apply (new_receipt sscc unit.lines item) state)

cleared_there : (replaces : Bool) (sscc : List ℕ) (later : List Change) (state : Tables)
    → ((state : Tables) → have_places later state ≡ true)
    → have_places (cleared replaces sscc ++ later) state ≡ true
cleared_there true sscc later state f = f (apply_all (cleared true sscc) state)
cleared_there false sscc later state f = f state

own_pallets : (pallets : List PalletRow) → AllByRecursion (λ pallet. list_any (same_pallet pallet) pallets ≡ true) pallets
own_pallets [] = tt
own_pallets (pallet ∷ pallets) = (
  or_left _ _ (same_if pallet.sscc pallet.sscc refl),
  all_weaker (λ one. list_any (same_pallet one) pallets ≡ true) (λ one. list_any (same_pallet one) (pallet ∷ pallets) ≡ true)
      (λ one h. or_right (same_pallet one pallet) _ h) pallets (own_pallets pallets),
)

places_received : (replaces : Bool) (unit : ReceiptUnit) → Places (judge_received replaces unit)
places_received replaces unit state changes h =
    let found = was_given (pallet_of state unit.sscc) codes.NoPallet _ changes h in
    let pallet = found.0 in
    let a = not_refused (not replaces && not (is_announced pallet)) codes.PalletReceived _ changes found.2 in
    let there = (all_found (λ pallet. list_any (same_pallet pallet) state.pallets ≡ true)
    (λ pallet. same pallet.sscc unit.sscc) state.pallets pallet (own_pallets state.pallets) found.1).0 in
    let row = record pallet { received = arrival_number (arrival_by replaces) } in
    let later = map (new_receipt unit.sscc unit.lines) (gtins unit.lines) in
    accepted (SetPallet row ∷ cleared replaces unit.sscc ++ later) changes state a.1
    (and_from _ _ there
    (cleared_there replaces unit.sscc later (apply (SetPallet row) state) (new_receipts unit.sscc unit (gtins unit.lines))))

places_new_receipt : (supplier : List ℕ) (incoming : IncomingMessage) (body : List ℕ) (receipt : Receipt)
    → Places (judge_new_receipt supplier incoming body receipt)
places_new_receipt supplier incoming body receipt state changes h =
    let a = not_refused (is_full (length state.mail)) codes.MailboxFull _ changes h in
    places_rest (new_mail supplier state incoming kinds.Receipt receipt.number body ∷ [])
    (in_order (judge_received receipt.replaces) receipt.units) state changes refl
    (places_in_order (judge_received receipt.replaces) (places_received receipt.replaces) receipt.units) a.1

-- Orders, which set no row.

new_lines : (supplier number : List ℕ) (lines : List OrderLine) (state : Tables)
    → have_places (map (new_line supplier number) lines) state ≡ true
new_lines supplier number [] state = refl
new_lines supplier number (line ∷ lines) state = new_lines supplier number lines (apply (new_line supplier number line) state)

places_new_order : (supplier : List ℕ) (incoming : IncomingMessage) (body : List ℕ) (order : Order) (t : Tables)
    (state : Tables) (changes : List Change)
    → judge_new_order supplier incoming body order state ≡ Accept changes
    → have_places changes t ≡ true
places_new_order supplier incoming body order t state changes h =
    let a = not_refused (knows_order state order.number) codes.OrderKnown _ changes h in
    let b = not_refused (is_full (length state.mail)) codes.MailboxFull _ changes a.1 in
    let mail = new_mail supplier state incoming kinds.Orders order.number body in
    let row = AddOrder (record { supplier = supplier; number = order.number }) in
    accepted (mail ∷ row ∷ map (new_line supplier order.number) order.lines) changes t b.1
    (new_lines supplier order.number order.lines (apply row (apply mail t)))

-- In the tables of all suppliers.

any_filtered : {X : Type 0} (p q : X → Bool) (xs : List X) → list_any p (filter q xs) ≡ true → list_any p xs ≡ true
any_filtered p q [] h = h
any_filtered p q (x ∷ xs) h =
    elim (q x) as (λ v. list_any p (cond v (x ∷ filter q xs) (filter q xs)) ≡ true → list_any p (x ∷ xs) ≡ true) [
      | true ↦ λ g. elim (or_cases (p x) (list_any p (filter q xs)) g) [
        | inl e ↦ or_left (p x) _ e
        | inr e ↦ or_right (p x) _ (any_filtered p q xs e)
      ]
      | false ↦ λ g. or_right (p x) _ (any_filtered p q xs g)
    ] h

seen_there : (gln : List ℕ) (t : Tables) (change : Change) → has_place change (view gln t) ≡ true → has_place change t ≡ true
seen_there gln t (SetHub row) h = absurd (cc (h))
seen_there gln t (SetKey row) h = any_filtered (same_key row) (λ row. same row.supplier gln) t.keys h
seen_there gln t (SetLine row) h = any_filtered (same_line row) (λ row. same row.supplier gln) t.lines h
seen_there gln t (SetPallet row) h = any_filtered (same_pallet row) (λ row. same row.supplier gln) t.pallets h
seen_there gln t (SetMail row) h = any_filtered (same_mail row) (λ row. same row.supplier gln) t.mail h
seen_there gln t other h = refl

module _ (suppliers : List SupplierRow) (free : PrefixFree (company_prefixes suppliers)) (s : SupplierRow)
    (known : supplier_row suppliers s.gln ≡ Some s) where
  there_for_all : (changes : List Change) (t : Tables)
      → Rooted suppliers t
      → BelongAll s (view s.gln t) changes
      → have_places changes (view s.gln t) ≡ true
      → have_places changes t ≡ true
  there_for_all [] t rooted belong h = refl
  there_for_all (change ∷ changes) t rooted belong h =
      let parts = and_parts (has_place change (view s.gln t)) (have_places changes (apply change (view s.gln t))) h in
      let one = seen suppliers free s known t rooted change belong.0 in
      and_from _ _ (seen_there s.gln t change parts.0)
      (there_for_all changes (apply change t) (rooted_after suppliers free s known t rooted change belong.0)
      (subst (λ rows. BelongAll s rows changes) (sym one) belong.1)
      (subst (λ rows. have_places changes rows ≡ true) (sym one) parts.1))

-- Taken marks, and joins.

own_mail : (mail : List MailRow) → AllByRecursion (λ entry. list_any (same_mail entry) mail ≡ true) mail
own_mail [] = tt
own_mail (entry ∷ mail) = (
  or_left _ _ (and_from _ _ (same_if entry.supplier entry.supplier refl) (eq-eqb entry.number entry.number refl)),
  all_weaker (λ one. list_any (same_mail one) mail ≡ true) (λ one. list_any (same_mail one) (entry ∷ mail) ≡ true)
      (λ one h. or_right (same_mail one entry) _ h) mail (own_mail mail),
)

pub taking_there : (gln : List ℕ) (number : ℕ) (t : Tables) (entry : MailRow)
    → entry_at (view gln t) number ≡ Some entry
    → have_places (taking entry) t ≡ true
taking_there gln number t entry found =
    let there : MailRow → Type 0 = λ entry. list_any (same_mail entry) t.mail ≡ true in
    let is = (all_found there (λ entry. entry.number == number) (view gln t).mail entry
    (all_filter there (λ entry. same entry.supplier gln) t.mail (own_mail t.mail)) found).0 in
    elim (is_taken entry) as (λ v. have_places (cond v [] (SetMail (record entry { taken = truth_number true }) ∷ [])) t ≡ true)
    [ true ↦ refl | false ↦ and_from _ _ is refl ]

prefixes_there : (gln : List ℕ) (prefixes : List (List ℕ)) (t : Tables) → have_places (prefix_changes gln prefixes) t ≡ true
prefixes_there gln [] t = refl
prefixes_there gln (prefix ∷ prefixes) t =
    prefixes_there gln prefixes (apply (AddPrefix (record { prefix = prefix; supplier = gln })) t)

pub joins_there : (row : SupplierRow) (t : Tables) → have_places (row_changes row) t ≡ true
joins_there row t = prefixes_there row.gln row.prefixes (apply (AddKey (record { supplier = row.gln; key = row.key })) t)

-- Laws.

module _ (suppliers : List SupplierRow) (s : SupplierRow) (t : Tables) (here : Registered suppliers s t) where
  pub response_there : (retailer : List ℕ) (incoming : IncomingMessage) (response : Response) (changes : List Change)
      → judge_response retailer (Some s) incoming response (view s.gln t) ≡ Accept changes
      → have_places changes t ≡ true
  response_there retailer incoming response changes h =
      there_for_all suppliers here.free s here.known changes t (here.sound).rooted
      (leads_response s retailer incoming response (view s.gln t) changes (good_view suppliers s t here.sound) h).belong
      (places_message s retailer sides.Supplier incoming (Some response.buyer) response.supplier
      (λ s. judge_new_response response) (places_new_response response) (view s.gln t) changes h)

  pub despatch_there : (retailer : List ℕ) (used : List ℕ → Bool) (incoming : IncomingMessage) (despatch : Despatch)
      (changes : List Change)
      → judge_despatch retailer (Some s) used incoming despatch (view s.gln t) ≡ Accept changes
      → have_places changes t ≡ true
  despatch_there retailer used incoming despatch changes h =
      there_for_all suppliers here.free s here.known changes t (here.sound).rooted
      (leads_despatch s retailer used incoming despatch (view s.gln t) changes (good_view suppliers s t here.sound) h).belong
      (places_message s retailer sides.Supplier incoming despatch.buyer despatch.supplier
      (λ s. judge_new_despatch s used despatch) (places_new_despatch s used despatch) (view s.gln t) changes h)

  pub receipt_there : (retailer : List ℕ) (incoming : IncomingMessage) (body : List ℕ) (receipt : Receipt)
      (changes : List Change)
      → judge_receipt retailer (Some s) incoming body receipt (view s.gln t) ≡ Accept changes
      → have_places changes t ≡ true
  receipt_there retailer incoming body receipt changes h =
      there_for_all suppliers here.free s here.known changes t (here.sound).rooted
      (leads_receipt s retailer incoming body receipt (view s.gln t) changes (good_view suppliers s t here.sound) h).belong
      (places_message s retailer sides.Retailer incoming receipt.buyer receipt.supplier
      (λ s. judge_new_receipt s.gln incoming body receipt) (places_new_receipt s.gln incoming body receipt) (view s.gln t)
      changes h)

  pub cancel_there : (content : List ℕ) (cancel : Cancel) (changes : List Change)
      → judge_cancel (Some s) content cancel (view s.gln t) ≡ Accept changes
      → have_places changes t ≡ true
  cancel_there content cancel changes h =
      let a = not_refused (not (same cancel.supplier s.gln)) codes.Supplier _ changes h in
      there_for_all suppliers here.free s here.known changes t (here.sound).rooted
      (leads_cancel s content cancel (view s.gln t) changes (good_view suppliers s t here.sound) h).belong
      (places_once (cancelled_by s cancel) content (judge_new_cancel cancel) (places_new_cancel cancel) (view s.gln t) changes a.1)

pub order_there : (s : SupplierRow) (t : Tables) (retailer : List ℕ) (incoming : IncomingMessage) (body : List ℕ) (order : Order)
    (changes : List Change)
    → judge_order retailer (Some s) incoming body order (view s.gln t) ≡ Accept changes
    → have_places changes t ≡ true
order_there s t retailer incoming body order changes h =
    let a = not_refused (is_other_buyer retailer (Some order.buyer)) codes.Buyer _ changes h in
    let b = not_refused (not (same order.supplier s.gln)) codes.Supplier _ changes a.1 in
    let r = referred_by s sides.Retailer incoming in
    let state = view s.gln t in
    let one = Remember (remembered r incoming.content) in
    let fresh = judge_new_order s.gln incoming body order in
    elim (once_cases (remembered_of state r.side r.control r.message) incoming.content
    (in_turn (gives (one ∷ [])) fresh state) changes b.1) [
      | inl e ↦ accepted [] changes t e refl
      | inr g ↦ let rest = joined_rest (one ∷ []) (fresh (apply one state)) changes g in
          subst (λ xs. have_places xs t ≡ true) rest.2
          (places_new_order s.gln incoming body order (apply one t) (apply one state) rest.0 rest.1)
    ]

-- Shows that order responses keep a supplier's rows sound.
use Rattle.std.proofs.Common.{◌≡◌, ℕ, ◌+◌, ◌-◌, nat_lt, false, not, List, [], ◌∷◌, map, Some, arith}
use Rattle.std.specs.List.{AllByRecursion}
use Rattle.std.proofs.lemmas.Bool.{or_parts}
use Rattle.std.proofs.lemmas.Bool.Decides.{nat_tests}
use Rattle.edi_documents.specs.EdiOrders.declared.response.Answer.{Answer}
use Rattle.edi_documents.specs.EdiOrders.declared.response.Answer.TheVariants.{AllAccepted, AllRefused, Lines}
use Rattle.edi_documents.specs.EdiOrders.declared.response.AnswerLine.{AnswerLine}
use Rattle.edi_documents.specs.EdiOrders.declared.response.LineAnswer.{LineAnswer}
use Rattle.edi_documents.specs.EdiOrders.declared.response.LineAnswer.TheVariants.{Accepted, Refused, Changed}
use Rattle.edi_documents.specs.EdiOrders.declared.response.Response.{Response}
use Rattle.hub_parties.specs.declared.row.SupplierRow.{SupplierRow}
use Rattle.hub_tables.specs.Change.{apply}
use Rattle.hub_tables.specs.Rows.{same}
use Rattle.hub_tables.specs.State.{knows_order, lines_of, line_of, despatched, waits}
use Rattle.hub_tables.specs.Tables.{Tables}
use Rattle.hub_tables.specs.declared.cases.Side.TheVariants as sides
use Rattle.hub_tables.specs.declared.change.Change.TheVariants.{SetLine}
use Rattle.hub_tables.specs.declared.rows.LineRow.{LineRow}
use Rattle.hub_tables.proofs.Lists.{all_filter, all_weaker}
use Rattle.hub_rules.specs.Laws.{KeptOwn}
use Rattle.hub_rules.specs.ResponseRules.{answered, is_out_of_range, judge_answer, waiting, is_empty, judge_all}
use Rattle.hub_rules.specs.ResponseRules.{judge_answers, judge_new_response}
use Rattle.hub_rules.specs.Rules.{judge_response}
use Rattle.hub_rules.specs.declared.code.Code.TheVariants as codes
use Rattle.hub_rules.specs.declared.incoming.IncomingMessage.{IncomingMessage}
use Rattle.hub_rules.proofs.GoodRows.{GoodLine, good_after, good_lines, line_found, leaves_set_line}
use Rattle.hub_rules.proofs.Keeping.{kept_set_line}
use Rattle.hub_rules.proofs.KeptByMessages.{leads_message}
use Rattle.hub_rules.proofs.Verdicts.{not_refused, was_given, Leaves, Leads, leaves_given, leaves_nothing, leaves_next, leads_in_order}

balanced_refused : (ordered open_qty refused cancelled sent : ℕ)
    → ordered ≡ open_qty + refused + cancelled + sent
    → ordered ≡ 0 + (refused + open_qty) + cancelled + sent
balanced_refused ordered open_qty refused cancelled sent h = omega arith

balanced_changed : (ordered open_qty refused cancelled sent quantity : ℕ)
    → ordered ≡ open_qty + refused + cancelled + sent
    → nat_lt quantity sent ≡ false
    → nat_lt (sent + open_qty) quantity ≡ false
    → ordered ≡ (quantity - sent) + (refused + (open_qty - (quantity - sent))) + cancelled + sent
balanced_changed ordered open_qty refused cancelled sent quantity h low high = grind (arith, nat_tests)

module _ (s : SupplierRow) where
  good_accepted : (state : Tables) (sent : ℕ) (line : LineRow) → GoodLine s state line → GoodLine s state (answered Accepted sent line)
  good_accepted state sent line fine = record { whose = fine.whose; known = fine.known; balance = fine.balance }

  good_refused : (state : Tables) (sent : ℕ) (line : LineRow) → GoodLine s state line → GoodLine s state (answered Refused sent line)
  good_refused state sent line fine = record {
    whose = fine.whose;
    known = fine.known;
    balance = balanced_refused line.ordered line.open_qty line.refused line.cancelled (despatched state line) fine.balance;
  }

  good_answer : (answer : LineAnswer) (state : Tables) (line : LineRow)
      → GoodLine s state line
      → is_out_of_range answer (despatched state line) line ≡ false
      → GoodLine s state (answered answer (despatched state line) line)
  good_answer Accepted state line fine range = good_accepted state (despatched state line) line fine
  good_answer Refused state line fine range = good_refused state (despatched state line) line fine
  good_answer (Changed quantity) state line fine range =
      let within = or_parts (nat_lt quantity (despatched state line)) (nat_lt (despatched state line + line.open_qty) quantity) range in
      record {
        whose = fine.whose;
        known = fine.known;
        balance =
            balanced_changed line.ordered line.open_qty line.refused line.cancelled (despatched state line) quantity
            fine.balance within.0 within.1;
      }

  leads_answer : (order : List ℕ) (said : AnswerLine) → Leads s (KeptOwn s) (KeptOwn s) (judge_answer order said)
  leads_answer order said state changes good h =
      let found = was_given (line_of state order said.order_line said.gtin) codes.NoLine _ changes h in
      let a = not_refused (not (waits found.0)) codes.NotWaiting _ changes found.2 in
      let b = not_refused (is_out_of_range said.answer (despatched state found.0) found.0) codes.OutOfRange _ changes a.1 in
      let c = not_refused (not (same found.0.gtin said.gtin)) codes.OtherArticle _ changes b.1 in
      let fine = line_found (GoodLine s state) state order said.order_line said.gtin found.0 (good_lines s state good) found.1 in
      let line : LineRow = answered said.answer (despatched state found.0) found.0 in
      leaves_given s (KeptOwn s) state (SetLine line ∷ []) changes c.1
      (leaves_set_line s state line good (good_answer said.answer state found.0 fine b.0))

  -- several lines are set, each as allowed
  leaves_set_lines : (f : LineRow → LineRow) (lines : List LineRow) (state : Tables)
      → KeptOwn s state
      → AllByRecursion (λ line. GoodLine s state (f line)) lines
      → Leaves s (KeptOwn s) state (map (λ line. SetLine (f line)) lines)
  leaves_set_lines f [] state good fine = leaves_nothing s (KeptOwn s) state good
  leaves_set_lines f (line ∷ lines) state good fine =
      leaves_next s (KeptOwn s) state (SetLine (f line)) (map (λ line. SetLine (f line)) lines) fine.0.whose
      (leaves_set_lines f lines (apply (SetLine (f line)) state)
      (good_after s state (SetLine (f line)) fine.0.whose good.own
      (kept_set_line state good.kept (f line) fine.0.known fine.0.balance))
      (all_weaker (λ l. GoodLine s state (f l)) (λ l. GoodLine s (apply (SetLine (f line)) state) (f l))
      (λ l other. record { whose = other.whose; known = other.known; balance = other.balance }) lines fine.1))

  leads_all : (answer : LineAnswer) (order : List ℕ)
      → ((state : Tables) (line : LineRow) → GoodLine s state line → GoodLine s state (answered answer 0 line))
      → Leads s (KeptOwn s) (KeptOwn s) (judge_all answer order)
  leads_all answer order f state changes good h =
      let a = not_refused (is_empty (waiting state order)) codes.NotWaiting _ changes h in
      let some = all_filter (GoodLine s state) waits (lines_of state order)
      (all_filter (GoodLine s state) (λ line. same line.number order) state.lines (good_lines s state good)) in
      leaves_given s (KeptOwn s) state (map (λ line. SetLine (answered answer 0 line)) (waiting state order)) changes a.1
      (leaves_set_lines (answered answer 0) (waiting state order) state good
      (all_weaker (GoodLine s state) (λ line. GoodLine s state (answered answer 0 line)) (f state) (waiting state order)
      some))

  leads_answers : (answer : Answer) (order : List ℕ) → Leads s (KeptOwn s) (KeptOwn s) (judge_answers answer order)
  leads_answers AllAccepted order = leads_all Accepted order (λ state line. good_accepted state 0 line)
  leads_answers AllRefused order = leads_all Refused order (λ state line. good_refused state 0 line)
  leads_answers (Lines lines) order = leads_in_order s (KeptOwn s) (judge_answer order) (leads_answer order) lines

  leads_new_response : (response : Response) → Leads s (KeptOwn s) (KeptOwn s) (judge_new_response response)
  leads_new_response response state changes good h =
      leads_answers response.answer response.order state changes good
      (not_refused (not (knows_order state response.order)) codes.NoOrder _ changes h).1

  pub leads_response : (retailer : List ℕ) (incoming : IncomingMessage) (response : Response)
      → Leads s (KeptOwn s) (KeptOwn s) (judge_response retailer (Some s) incoming response)
  leads_response retailer incoming response =
      leads_message s retailer sides.Supplier incoming (Some response.buyer) response.supplier
      (λ s. judge_new_response response) (leads_new_response response)

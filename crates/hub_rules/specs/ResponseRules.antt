-- Defines the rules of ORDRSP (B05 to B09).
use Rattle.std.specs.Prelude.{ℕ, ◌+◌, ◌-◌, nat_lt, Bool, true, false, ◌||◌, not, List, [], ◌∷◌, map, filter}
use Rattle.edi_documents.specs.EdiOrders.declared.response.Answer.{Answer}
use Rattle.edi_documents.specs.EdiOrders.declared.response.Answer.TheVariants.{AllAccepted, AllRefused, Lines}
use Rattle.edi_documents.specs.EdiOrders.declared.response.AnswerLine.{AnswerLine}
use Rattle.edi_documents.specs.EdiOrders.declared.response.LineAnswer.{LineAnswer}
use Rattle.edi_documents.specs.EdiOrders.declared.response.LineAnswer.TheVariants.{Accepted, Refused, Changed}
use Rattle.edi_documents.specs.EdiOrders.declared.response.Response.{Response}
use Rattle.hub_tables.specs.Cases.{answer_letter}
use Rattle.hub_tables.specs.Rows.{same}
use Rattle.hub_tables.specs.State.{knows_order, lines_of, line_of, despatched, waits}
use Rattle.hub_tables.specs.Tables.{Tables}
use Rattle.hub_tables.specs.declared.cases.LineState.TheVariants as answers
use Rattle.hub_tables.specs.declared.change.Change.TheVariants.{SetLine}
use Rattle.hub_tables.specs.declared.rows.LineRow.{LineRow}
use Rattle.hub_rules.specs.Judging.{Judge, refuse_if, given, in_order}
use Rattle.hub_rules.specs.declared.code.Code.TheVariants.{NoOrder, NoLine, NotWaiting, OutOfRange, OtherArticle}
use Rattle.hub_rules.specs.declared.verdict.Verdict.TheVariants.{Accept}

-- The line after its answer, if `sent` of it is despatched. `Refused` refuses all that was open. `Changed` sets open to
-- the new quantity less what is despatched, and refuses the rest of what was open.
abbrev pub answered : LineAnswer → ℕ → LineRow → LineRow
answered Accepted sent line = record line { answer = answer_letter answers.Accepted }
answered Refused sent line =
    record line { open_qty = 0; refused = line.refused + line.open_qty; answer = answer_letter answers.NotAccepted }
answered (Changed quantity) sent line = record line {
  open_qty = quantity - sent;
  refused = line.refused + (line.open_qty - (quantity - sent));
  answer = answer_letter answers.Changed;
}

-- whether a changed quantity is below what is despatched, or above what is despatched and open together
abbrev pub is_out_of_range : LineAnswer → ℕ → LineRow → Bool
is_out_of_range Accepted sent line = false
is_out_of_range Refused sent line = false
is_out_of_range (Changed quantity) sent line = nat_lt quantity sent || nat_lt (sent + line.open_qty) quantity

-- a line: B06, B07, B08, B09
abbrev pub judge_answer : List ℕ → AnswerLine → Judge
judge_answer order said state =
    given (line_of state order said.order_line said.gtin) NoLine (λ line.
    refuse_if (not (waits line)) NotWaiting (
    refuse_if (is_out_of_range said.answer (despatched state line) line) OutOfRange (
    refuse_if (not (same line.gtin said.gtin)) OtherArticle (
    Accept (SetLine (answered said.answer (despatched state line) line) ∷ [])))))

-- the lines of an order that still wait for an answer
abbrev pub waiting : Tables → List ℕ → List LineRow
waiting state order = filter waits (lines_of state order)

abbrev pub is_empty : {X : Type 0} → List X → Bool
is_empty [] = true
is_empty (x ∷ xs) = false

-- B07; then the same answer for every line that waits
abbrev pub judge_all : LineAnswer → List ℕ → Judge
judge_all answer order state =
    refuse_if (is_empty (waiting state order)) NotWaiting (
    Accept (map (λ line. SetLine (answered answer 0 line)) (waiting state order)))

abbrev pub judge_answers : Answer → List ℕ → Judge
judge_answers AllAccepted order = judge_all Accepted order
judge_answers AllRefused order = judge_all Refused order
judge_answers (Lines lines) order = in_order (judge_answer order) lines

-- B05; then the answers
abbrev pub judge_new_response : Response → Judge
judge_new_response response state =
    refuse_if (not (knows_order state response.order)) NoOrder (judge_answers response.answer response.order state)

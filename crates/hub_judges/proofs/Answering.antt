-- Shows that answers are decided from facts as from the state that the facts agree with.
use Rattle.std.proofs.Common.{◌≡◌, ℕ, Bool, true, false, cond, not, List, [], ◌∷◌, ◌++◌, map, filter, Option}
use Rattle.std.proofs.Common.{Some, None, option_map, refl, sym, ◌∙◌, ap, ap₂}
use Rattle.std.proofs.lemmas.List.{append_assoc}
use Rattle.edi_orders.specs.declared.response.Answer.{Answer}
use Rattle.edi_orders.specs.declared.response.Answer.TheVariants.{AllAccepted, AllRefused, Lines}
use Rattle.edi_orders.specs.declared.response.AnswerLine.{AnswerLine}
use Rattle.edi_orders.specs.declared.response.LineAnswer.{LineAnswer}
use Rattle.edi_orders.specs.declared.response.LineAnswer.TheVariants.{Accepted, Refused, Changed}
use Rattle.edi_orders.specs.declared.response.Response.{Response}
use Rattle.hub_tables.specs.Change.{apply}
use Rattle.hub_tables.specs.Rows.{same}
use Rattle.hub_tables.specs.State.{waits, despatched}
use Rattle.hub_tables.specs.Tables.{Tables}
use Rattle.hub_tables.specs.declared.change.Change.{Change}
use Rattle.hub_tables.specs.declared.change.Change.TheVariants.{SetLine}
use Rattle.hub_tables.specs.declared.rows.LineRow.{LineRow}
use Rattle.hub_order_lines.specs.Book.{Orders, facts_among, lines_in, rows, with_row, answered_row}
use Rattle.hub_order_lines.specs.declared.facts.LineFacts.{LineFacts}
use Rattle.hub_order_lines.proofs.Setting.{looked_up_in}
use Rattle.hub_rules.specs.Judging.{refuse_if, given, joined, goes_on, in_order}
use Rattle.hub_rules.specs.ResponseRules.{answered, is_out_of_range, is_empty, judge_answer, judge_all, judge_answers, judge_new_response}
use Rattle.hub_rules.specs.declared.code.Code.TheVariants.{NoOrder, NoLine, NotWaiting, OutOfRange, OtherArticle}
use Rattle.hub_rules.specs.declared.verdict.Verdict.{Verdict}
use Rattle.hub_rules.specs.declared.verdict.Verdict.TheVariants.{Accept, Refuse}
use Rattle.hub_judges.specs.FromFacts.{answer_checks, after_answer, answers_from, all_from, said_from, response_from}
use Rattle.hub_judges.specs.Known.{TellsAnswered, TellsLines, TellsDespatched}
use Rattle.hub_judges.specs.declared.known.Known.{Known}
use Rattle.hub_judges.proofs.Facts.{line_told, lines_told_after, despatched_told_after}

-- the rest of a judge's checks, if this quantity of the line is despatched
abbrev checked : AnswerLine → ℕ → LineRow → Verdict → Verdict
checked said sent line rest =
    refuse_if (not (waits line)) NotWaiting (
    refuse_if (is_out_of_range said.answer sent line) OutOfRange (
    refuse_if (not (same line.gtin said.gtin)) OtherArticle rest))

-- the first answer, then the decision on the rest
module _ (order : List ℕ) (x : AnswerLine) (rest : List AnswerLine) (state : Tables) (lines : Orders)
    (told : TellsLines state lines order) (sums : TellsDespatched state lines order)
    (ih : (st : Tables) (ls : Orders)
    → TellsLines st ls order
    → TellsDespatched st ls order
    → in_order (judge_answer order) rest st ≡ answers_from order rest ls) where
  abbrev after : LineFacts → LineRow
  after line = answered x.answer line.despatched line.row

  step : (line : LineFacts)
      → joined (SetLine (after line) ∷ []) (in_order (judge_answer order) rest (apply (SetLine (after line)) state))
      ≡ joined (SetLine (after line) ∷ []) (answers_from order rest (with_row (after line) lines))
  step line =
      ap (joined (SetLine (after line) ∷ [])) (ih (apply (SetLine (after line)) state) (with_row (after line) lines)
      (lines_told_after state lines (after line) order told) (despatched_told_after state lines (after line) order sums))

  through : (line : LineFacts) (a b c : Bool)
      → goes_on
      (refuse_if a NotWaiting (refuse_if b OutOfRange (refuse_if c OtherArticle (Accept (SetLine (after line) ∷ [])))))
      (in_order (judge_answer order) rest) state
      ≡ refuse_if a NotWaiting (refuse_if b OutOfRange (refuse_if c OtherArticle
      (joined (SetLine (after line) ∷ []) (answers_from order rest (with_row (after line) lines)))))
  through line true b c = refl
  through line false true c = refl
  through line false false true = refl
  through line false false false = step line

  one : (found : Option LineFacts) → facts_among (lines_in lines order) x.order_line x.gtin ≡ found
      → goes_on (given (option_map (λ line. line.row) found) NoLine (λ line.
      checked x (despatched state line) line (Accept (SetLine (answered x.answer (despatched state line) line) ∷ []))))
      (in_order (judge_answer order) rest) state
      ≡ given found NoLine (λ line. checked x line.despatched line.row
      (joined (SetLine (after line) ∷ []) (answers_from order rest (with_row (after line) lines))))
  one None e = refl
  one (Some line) e =
      let sent : despatched state line.row ≡ line.despatched =
      looked_up_in (λ line. despatched state line.row ≡ line.despatched) (lines_in lines order) x.order_line x.gtin line sums e in
      ap (λ n. goes_on (checked x n line.row (Accept (SetLine (answered x.answer n line.row) ∷ [])))
      (in_order (judge_answer order) rest) state) sent
      ∙ through line (not (waits line.row)) (is_out_of_range x.answer line.despatched line.row) (not (same line.row.gtin x.gtin))

pub answers_alike : (order : List ℕ) (said : List AnswerLine) (state : Tables) (lines : Orders)
    → TellsLines state lines order
    → TellsDespatched state lines order
    → in_order (judge_answer order) said state ≡ answers_from order said lines
answers_alike order [] state lines told sums = refl
answers_alike order (x ∷ rest) state lines told sums =
    ap (λ found. goes_on (given found NoLine (λ line.
    checked x (despatched state line) line (Accept (SetLine (answered x.answer (despatched state line) line) ∷ []))))
    (in_order (judge_answer order) rest) state) (line_told state lines order x.order_line x.gtin told)
    ∙ one order x rest state lines told sums (λ st ls a b. answers_alike order rest st ls a b)
    (facts_among (lines_in lines order) x.order_line x.gtin) refl

-- the same answer for all lines that wait
module _ (answer : LineAnswer) (whatever : (sent : ℕ) (line : LineRow) → answered answer sent line ≡ answered answer 0 line) where
  all_changes : (lines : List LineFacts)
      → map (λ line. SetLine (answered answer 0 line)) (filter waits (rows lines))
      ≡ map (λ line. SetLine (answered answer line.despatched line.row)) (filter (λ line. waits line.row) lines)
  all_changes [] = refl
  all_changes (line ∷ lines) =
      elim (waits line.row) as (λ v. map (λ line. SetLine (answered answer 0 line))
      (cond v (line.row ∷ filter waits (rows lines)) (filter waits (rows lines)))
      ≡ map (λ line. SetLine (answered answer line.despatched line.row))
      (cond v (line ∷ filter (λ line. waits line.row) lines) (filter (λ line. waits line.row) lines))) [
        | true ↦ ap₂ (λ row changes. SetLine row ∷ changes) (sym (whatever line.despatched line.row)) (all_changes lines)
        | false ↦ all_changes lines
      ]

  none_alike : (lines : List LineFacts) → is_empty (filter waits (rows lines)) ≡ is_empty (filter (λ line. waits line.row) lines)
  none_alike [] = refl
  none_alike (line ∷ lines) =
      elim (waits line.row) as (λ v. is_empty (cond v (line.row ∷ filter waits (rows lines)) (filter waits (rows lines)))
      ≡ is_empty (cond v (line ∷ filter (λ line. waits line.row) lines) (filter (λ line. waits line.row) lines))) [
        | true ↦ refl
        | false ↦ none_alike lines
      ]

  all_alike : (order : List ℕ) (state : Tables) (lines : Orders)
      → TellsLines state lines order
      → judge_all answer order state ≡ all_from answer (lines_in lines order)
  all_alike order state lines told =
      ap (λ ls. refuse_if (is_empty (filter waits ls)) NotWaiting
      (Accept (map (λ line. SetLine (answered answer 0 line)) (filter waits ls)))) told
      ∙ ap₂ (λ v changes. refuse_if v NotWaiting (Accept changes)) (none_alike (lines_in lines order)) (all_changes (lines_in lines order))

said_alike : (answer : Answer) (order : List ℕ) (state : Tables) (lines : Orders)
    → TellsLines state lines order
    → TellsDespatched state lines order
    → judge_answers answer order state ≡ said_from answer order lines
said_alike AllAccepted order state lines told sums = all_alike Accepted (λ sent line. refl) order state lines told
said_alike AllRefused order state lines told sums = all_alike Refused (λ sent line. refl) order state lines told
said_alike (Lines said) order state lines told sums = answers_alike order said state lines told sums

pub response_alike : (known : Known) (response : Response) (state : Tables)
    → TellsAnswered known response.order state
    → judge_new_response response state ≡ response_from response known
response_alike known response state told =
    ap₂ (λ v rest. refuse_if (not v) NoOrder rest) told.order
    (said_alike response.answer response.order state known.orders told.lines told.despatched)

-- the row that a book sets is the line after its answer
same_row : (answer : LineAnswer) (line : LineFacts)
    → answered_row line.row (after_answer answer line).open_qty (after_answer answer line).refused
    (after_answer answer line).cancelled (after_answer answer line).answer
    ≡ after_answer answer line
same_row Accepted line = refl
same_row Refused line = refl
same_row (Changed quantity) line = refl

pub row_is_set : (answer : LineAnswer) (line : LineFacts) (row : LineRow)
    → row ≡ after_answer answer line
    → answered_row line.row row.open_qty row.refused row.cancelled row.answer ≡ row
row_is_set answer line row is =
    ap (λ (r : LineRow). answered_row line.row r.open_qty r.refused r.cancelled r.answer) is ∙ same_row answer line ∙ sym is

-- the decision on one answer, then on the rest with what it left
pub answered_next :
    (order : List ℕ) (said : AnswerLine) (rest : List AnswerLine) (before : List Change) (lines after : Orders)
    (line : LineFacts) (row : LineRow)
    → facts_among (lines_in lines order) said.order_line said.gtin ≡ Some line → row ≡ after_answer said.answer line
    → ((verdict : Verdict) → answer_checks said line verdict ≡ verdict)
    → after ≡ with_row (answered_row line.row row.open_qty row.refused row.cancelled row.answer) lines
    → joined before (answers_from order (said ∷ rest) lines) ≡ joined (before ++ SetLine row ∷ []) (answers_from order rest after)
answered_next order said rest before lines after line row found is pass set =
    let left : with_row (after_answer said.answer line) lines ≡ after =
    sym (set ∙ ap (λ r. with_row r lines) (row_is_set said.answer line row is ∙ is)) in
    ap (λ one. joined before
    (given one NoLine (λ line. answer_checks said line (joined (SetLine (after_answer said.answer line) ∷ [])
    (answers_from order rest (with_row (after_answer said.answer line) lines)))))) found
    ∙ ap (joined before) (pass (joined (SetLine (after_answer said.answer line) ∷ [])
    (answers_from order rest (with_row (after_answer said.answer line) lines))))
    ∙ ap₂ (λ r ls. joined before (joined (SetLine r ∷ []) (answers_from order rest ls))) (sym is) left
    ∙ grouped before row (answers_from order rest after)
  where
    grouped : (before : List Change) (row : LineRow) (v : Verdict)
        → joined before (joined (SetLine row ∷ []) v) ≡ joined (before ++ SetLine row ∷ []) v
    grouped before row (Refuse code) = refl
    grouped before row (Accept rest) = ap Accept (sym (append_assoc before (SetLine row ∷ []) rest))

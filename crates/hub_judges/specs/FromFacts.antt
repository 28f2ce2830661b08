-- Restates the rules of lines and units over known facts, without a state. The invariants of the judges' loops use
-- these definitions, and a lemma for each shows that it agrees with the rules. They serve only those proofs; no public
-- clause uses them.
use Rattle.std.specs.Prelude.{ℕ, Bool, false, ◌+◌, ◌-◌, nat_lt, not, ◌&&◌, ◌||◌, List, [], ◌∷◌, ◌++◌, map, filter, Option, Some}
use Rattle.std.specs.Prelude.{Result, Ok, Err}
use Rattle.gs1_ids.specs.Sscc.{under_some}
use Rattle.edi_orders.specs.declared.response.Answer.{Answer}
use Rattle.edi_orders.specs.declared.response.Answer.TheVariants.{AllAccepted, AllRefused, Lines}
use Rattle.edi_orders.specs.declared.response.AnswerLine.{AnswerLine}
use Rattle.edi_orders.specs.declared.response.LineAnswer.{LineAnswer}
use Rattle.edi_orders.specs.declared.response.LineAnswer.TheVariants.{Accepted, Refused}
use Rattle.edi_orders.specs.declared.response.Response.{Response}
use Rattle.edi_goods.specs.declared.despatch.Despatch.{Despatch}
use Rattle.edi_goods.specs.declared.despatch.DespatchLine.{DespatchLine}
use Rattle.edi_goods.specs.declared.despatch.Unit.{Unit}
use Rattle.edi_goods.specs.declared.receipt.ReceiptUnit.{ReceiptUnit}
use Rattle.hub_parties.specs.declared.row.SupplierRow.{SupplierRow}
use Rattle.hub_tables.specs.Cases.{arrival_number}
use Rattle.hub_tables.specs.Rows.{same}
use Rattle.hub_tables.specs.State.{waits, is_announced}
use Rattle.hub_tables.specs.declared.change.Change.TheVariants.{SetLine, SetPallet, AddAdvice, AddPallet, AddContent}
use Rattle.hub_tables.specs.declared.change.Change.{Change}
use Rattle.hub_tables.specs.declared.cases.Arrival.TheVariants.{Announced}
use Rattle.hub_tables.specs.declared.rows.PalletRow.{PalletRow}
use Rattle.hub_tables.specs.declared.rows.LineRow.{LineRow}
use Rattle.hub_order_lines.specs.Book.{Orders, facts_among, has_order, lines_in, with_row}
use Rattle.hub_order_lines.specs.declared.facts.LineFacts.{LineFacts}
use Rattle.hub_rules.specs.Judging.{refuse_if, given, joined}
use Rattle.hub_rules.specs.ReceiptRules.{gtins, new_receipt, arrival_by, cleared}
use Rattle.hub_rules.specs.ResponseRules.{answered, is_out_of_range, is_empty}
use Rattle.hub_rules.specs.declared.code.Code.TheVariants.{NoOrder, NoLine, NotWaiting, OutOfRange, OtherArticle}
use Rattle.hub_rules.specs.declared.code.Code.TheVariants.{MoreThanOpen, OtherPrefix, SsccUsed, AdviceKnown, NoPallet}
use Rattle.hub_rules.specs.declared.code.Code.TheVariants.{PalletReceived, CancelsMoreThanOpen}
use Rattle.hub_rules.specs.declared.code.Code.{Code}
use Rattle.hub_rules.specs.declared.cancel.Cancel.{Cancel}
use Rattle.hub_rules.specs.declared.verdict.Verdict.{Verdict}
use Rattle.hub_rules.specs.declared.verdict.Verdict.TheVariants.{Accept, Refuse}
use Rattle.hub_judges.specs.declared.known.Known.{Known}

-- an answered line: B07, B08, B09, then the rest
abbrev pub answer_checks : AnswerLine → LineFacts → Verdict → Verdict
answer_checks said line rest =
    refuse_if (not (waits line.row)) NotWaiting (
    refuse_if (is_out_of_range said.answer line.despatched line.row) OutOfRange (
    refuse_if (not (same line.row.gtin said.gtin)) OtherArticle rest))

-- the line after its answer
abbrev pub after_answer : LineAnswer → LineFacts → LineRow
after_answer answer line = answered answer line.despatched line.row

-- answers to lines, each on what the earlier ones left
abbrev pub answers_from : List ℕ → List AnswerLine → Orders → Verdict
answers_from order [] lines = Accept []
answers_from order (said ∷ rest) lines =
    given (facts_among (lines_in lines order) said.order_line said.gtin) NoLine (λ line.
    answer_checks said line (
    joined (SetLine (after_answer said.answer line)
    ∷ []) (answers_from order rest (with_row (after_answer said.answer line) lines))))

-- the lines that wait for an answer
abbrev pub waiting : List LineFacts → List LineFacts
waiting lines = filter (λ line. waits line.row) lines

-- the same answer to each line that waits
abbrev pub all_from : LineAnswer → List LineFacts → Verdict
all_from answer lines =
    refuse_if (is_empty (waiting lines)) NotWaiting (
    Accept (map (λ line. SetLine (after_answer answer line)) (waiting lines)))

abbrev pub said_from : Answer → List ℕ → Orders → Verdict
said_from AllAccepted order lines = all_from Accepted (lines_in lines order)
said_from AllRefused order lines = all_from Refused (lines_in lines order)
said_from (Lines said) order lines = answers_from order said lines

-- the changes that an ORDRSP makes to what is known, or the first of B05 to B09 that it breaks
abbrev pub response_from : Response → Known → Verdict
response_from response known =
    refuse_if (not (has_order known.orders response.order)) NoOrder
    (said_from response.answer response.order known.orders)

-- a line to set, or the rule that refuses it
abbrev pub of_line : Result LineRow Code → Verdict
of_line (Ok row) = Accept (SetLine row ∷ [])
of_line (Err code) = Refuse code

-- the line that a cancellation names, after the cancellation
abbrev pub cancelled_from : Cancel → Known → Verdict
cancelled_from cancel known =
    refuse_if (not (has_order known.orders cancel.order)) NoOrder (
    given (facts_among (lines_in known.orders cancel.order) (Some cancel.line) []) NoLine (λ line.
    refuse_if (nat_lt line.row.open_qty cancel.quantity) CancelsMoreThanOpen (
    Accept (SetLine (record line.row {
      open_qty = line.row.open_qty - cancel.quantity;
      cancelled = line.row.cancelled + cancel.quantity;
    }) ∷ []))))

-- the SSCCs of the units so far: none at first, and one more with each unit
abbrev pub no_sscc : List ℕ → Bool
no_sscc sscc = false

abbrev pub and_sscc : (List ℕ → Bool) → List ℕ → List ℕ → Bool
and_sscc came one sscc = same sscc one || came sscc

-- the changes for a unit on a pallet: the pallet is received, an advice that replaces deletes the pallet's earlier
-- receipts, and the totals of each article are added
abbrev pub received : Bool → PalletRow → ReceiptUnit → List Change
received replaces pallet unit = SetPallet (record pallet { received = arrival_number (arrival_by replaces) })
    ∷ cleared replaces unit.sscc ++ map (new_receipt unit.sscc unit.lines) (gtins unit.lines)

-- the units of a RECADV, each with its pallet as it was before the first of them; an earlier unit with the same SSCC
-- has already received the pallet
abbrev pub receipts_from : Bool → (List ℕ → Bool) → List ReceiptUnit → List (Option PalletRow) → Verdict
receipts_from replaces came [] pallets = Accept []
receipts_from replaces came (unit ∷ units) [] = Accept []
receipts_from replaces came (unit ∷ units) (pallet ∷ pallets) =
    given pallet NoPallet (λ row.
    refuse_if (not replaces && (came unit.sscc || not (is_announced row))) PalletReceived (
    joined (received replaces row unit) (receipts_from replaces (and_sscc came unit.sscc) units pallets)))

-- the line after this quantity of it is despatched
abbrev pub after_despatch : DespatchLine → LineFacts → LineRow
after_despatch said line = record line.row { open_qty = line.row.open_qty - said.quantity }

abbrev pub new_content : List ℕ → ℕ → DespatchLine → LineFacts → Change
new_content sscc place said line =
    AddContent (record {
      sscc = sscc;
      place = place;
      number = line.row.number;
      line = line.row.line;
      quantity = said.quantity;
    })

-- a despatched line: B09, B10, then the rest
abbrev pub despatch_checks : DespatchLine → LineFacts → Verdict → Verdict
despatch_checks said line rest =
    refuse_if (not (same line.row.gtin said.gtin)) OtherArticle (
    refuse_if (nat_lt line.row.open_qty said.quantity) MoreThanOpen rest)

-- the lines of a unit, each on what the earlier ones left, with places that follow `n`; then `next` on what they all
-- left
abbrev pub lines_from : List ℕ → ℕ → List DespatchLine → Orders → (Orders → Verdict) → Verdict
lines_from sscc n [] lines next = next lines
lines_from sscc n (said ∷ rest) lines next =
    refuse_if (not (has_order lines said.order)) NoOrder (
    given (facts_among (lines_in lines said.order) said.order_line said.gtin) NoLine (λ line.
    despatch_checks said line (
    joined (SetLine (after_despatch said line) ∷ new_content sscc (n + 1) said line ∷ [])
    (lines_from sscc (n + 1) rest (with_row (after_despatch said line) lines) next))))

abbrev pub new_pallet : SupplierRow → List ℕ → List ℕ → Change
new_pallet s advice sscc =
    AddPallet (record { sscc = sscc; supplier = s.gln; advice = advice; received = arrival_number Announced })

-- a unit: B11, B12, then the rest
abbrev pub unit_checks : SupplierRow → List ℕ → Bool → Verdict → Verdict
unit_checks s sscc used rest =
    refuse_if (not (under_some sscc s.prefixes)) OtherPrefix (
    refuse_if used SsccUsed rest)

-- the units of a DESADV, each with whether its SSCC was used before the first of them; an earlier unit with the same
-- SSCC uses it too
abbrev pub units_from : SupplierRow → List ℕ → (List ℕ → Bool) → List Unit → List Bool → Orders → Verdict
units_from s advice came [] used lines = Accept []
units_from s advice came (unit ∷ units) [] lines = Accept []
units_from s advice came (unit ∷ units) (used ∷ rest) lines =
    unit_checks s unit.sscc (used || came unit.sscc) (
    joined (new_pallet s advice unit.sscc ∷ [])
    (lines_from unit.sscc 0 unit.lines lines (λ left.
    units_from s advice (and_sscc came unit.sscc) units rest left)))

-- the changes that a DESADV makes to what is known, or the first of B13, B11, B12, B05, B06, B09 and B10 that it breaks
abbrev pub despatch_from : SupplierRow → Despatch → Known → Verdict
despatch_from s despatch known =
    refuse_if known.number_known AdviceKnown (
    joined (AddAdvice (record { supplier = s.gln; number = despatch.number }) ∷ [])
    (units_from s despatch.number no_sscc despatch.units known.used known.orders))

-- Defines the rules of DESADV (B05, B06, B09 to B13).
use Rattle.std.specs.Prelude.{ℕ, ◌+◌, ◌-◌, nat_lt, Bool, ◌||◌, not, List, [], ◌∷◌}
use Rattle.gs1_ids.specs.Sscc.{under_some}
use Rattle.edi_documents.specs.EdiGoods.declared.despatch.Despatch.{Despatch}
use Rattle.edi_documents.specs.EdiGoods.declared.despatch.DespatchLine.{DespatchLine}
use Rattle.edi_documents.specs.EdiGoods.declared.despatch.Unit.{Unit}
use Rattle.hub_parties.specs.declared.row.SupplierRow.{SupplierRow}
use Rattle.hub_tables.specs.Cases.{arrival_number}
use Rattle.hub_tables.specs.Rows.{same}
use Rattle.hub_tables.specs.State.{knows_order, knows_advice, line_of}
use Rattle.hub_tables.specs.Tables.{has_pallet}
use Rattle.hub_tables.specs.declared.cases.Arrival.TheVariants.{Announced}
use Rattle.hub_tables.specs.declared.change.Change.TheVariants.{SetLine, AddAdvice, AddPallet, AddContent}
use Rattle.hub_rules.specs.Judging.{Judge, gives, refuse_if, given, in_turn, in_order}
use Rattle.hub_rules.specs.declared.code.Code.TheVariants.{NoOrder, NoLine, OtherArticle, MoreThanOpen, OtherPrefix}
use Rattle.hub_rules.specs.declared.code.Code.TheVariants.{SsccUsed, AdviceKnown}
use Rattle.hub_rules.specs.declared.verdict.Verdict.TheVariants.{Accept}

-- the lines of a unit, each with its place on the unit; the places follow `n`
abbrev pub placed : ℕ → List DespatchLine → List (ℕ × DespatchLine)
placed n [] = []
placed n (line ∷ lines) = (n + 1, line) ∷ placed (n + 1) lines

-- a line: B05, B06, B09, B10; if all pass, its quantity moves from open to a content of the pallet
abbrev pub judge_despatched : List ℕ → ℕ × DespatchLine → Judge
judge_despatched sscc (place, said) state =
    refuse_if (not (knows_order state said.order)) NoOrder (
    given (line_of state said.order said.order_line said.gtin) NoLine (λ line.
    refuse_if (not (same line.gtin said.gtin)) OtherArticle (
    refuse_if (nat_lt line.open_qty said.quantity) MoreThanOpen (
    Accept (
    SetLine (record line { open_qty = line.open_qty - said.quantity })
    ∷ AddContent (record {
      sscc = sscc;
      place = place;
      number = line.number;
      line = line.line;
      quantity = said.quantity;
    })
    ∷ [])))))

-- a unit: B11, B12; then the pallet and its lines. An SSCC is used if the hub has it already, or an earlier unit has
-- it.
abbrev pub judge_unit : SupplierRow → (List ℕ → Bool) → List ℕ → Unit → Judge
judge_unit s used advice unit state =
    refuse_if (not (under_some unit.sscc s.prefixes)) OtherPrefix (
    refuse_if (used unit.sscc || has_pallet state unit.sscc) SsccUsed (
    in_turn (gives (AddPallet (record {
      sscc = unit.sscc;
      supplier = s.gln;
      advice = advice;
      received = arrival_number Announced;
    }) ∷ []))
    (in_order (judge_despatched unit.sscc) (placed 0 unit.lines)) state))

-- B13; then the advice and its units
abbrev pub judge_new_despatch : SupplierRow → (List ℕ → Bool) → Despatch → Judge
judge_new_despatch s used despatch state =
    refuse_if (knows_advice state despatch.number) AdviceKnown (
    in_turn (gives (AddAdvice (record { supplier = s.gln; number = despatch.number }) ∷ []))
    (in_order (judge_unit s used despatch.number) despatch.units) state)

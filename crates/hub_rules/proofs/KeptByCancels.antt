-- Shows that cancellations keep a supplier's rows sound.
use Rattle.std.proofs.Common.{◌≡◌, ℕ, ◌+◌, ◌-◌, nat_lt, false, not, List, [], ◌∷◌, Some, refl, arith}
use Rattle.std.proofs.lemmas.Bool.Decides.{nat_tests}
use Rattle.hub_parties.specs.declared.row.SupplierRow.{SupplierRow}
use Rattle.hub_tables.specs.Rows.{same}
use Rattle.hub_tables.specs.State.{knows_order, line_of, despatched}
use Rattle.hub_tables.specs.declared.cases.Side.TheVariants.{Cancellation}
use Rattle.hub_tables.specs.declared.change.Change.TheVariants.{SetLine}
use Rattle.hub_tables.specs.declared.rows.LineRow.{LineRow}
use Rattle.hub_rules.specs.Laws.{KeptOwn}
use Rattle.hub_rules.specs.CancellationRules.{judge_new_cancel}
use Rattle.hub_rules.specs.RepeatRules.{Reference}
use Rattle.hub_rules.specs.Rules.{judge_cancel}
use Rattle.hub_rules.specs.declared.code.Code.TheVariants as codes
use Rattle.hub_rules.specs.declared.cancel.Cancel.{Cancel}
use Rattle.hub_rules.proofs.GoodRows.{GoodLine, good_lines, line_found, leaves_set_line}
use Rattle.hub_rules.proofs.KeptByMessages.{leads_once}
use Rattle.hub_rules.proofs.Verdicts.{not_refused, was_given, Leads, leaves_given}

balanced_cancelled : (ordered open_qty refused cancelled sent quantity : ℕ)
    → ordered ≡ open_qty + refused + cancelled + sent
    → nat_lt open_qty quantity ≡ false
    → ordered ≡ (open_qty - quantity) + refused + (cancelled + quantity) + sent
balanced_cancelled ordered open_qty refused cancelled sent quantity h enough = grind (arith, nat_tests)

leads_new_cancel : (s : SupplierRow) (cancel : Cancel) → Leads s (KeptOwn s) (KeptOwn s) (judge_new_cancel cancel)
leads_new_cancel s cancel state changes good h =
    let a = not_refused (not (knows_order state cancel.order)) codes.NoOrder _ changes h in
    let found = was_given (line_of state cancel.order (Some cancel.line) []) codes.NoLine _ changes a.1 in
    let b = not_refused (nat_lt found.0.open_qty cancel.quantity) codes.CancelsMoreThanOpen _ changes found.2 in
    let fine = line_found (GoodLine s state) state cancel.order (Some cancel.line) [] found.0 (good_lines s state good) found.1 in
    let line : LineRow =
    record found.0 { open_qty = found.0.open_qty - cancel.quantity; cancelled = found.0.cancelled + cancel.quantity } in
    let next : GoodLine s state line = record {
      whose = fine.whose;
      known = fine.known;
      balance =
          balanced_cancelled found.0.ordered found.0.open_qty found.0.refused found.0.cancelled (despatched state found.0)
          cancel.quantity fine.balance b.0;
    } in
    leaves_given s (KeptOwn s) state (SetLine line ∷ []) changes b.1 (leaves_set_line s state line good next)

pub leads_cancel : (s : SupplierRow) (content : List ℕ) (cancel : Cancel)
    → Leads s (KeptOwn s) (KeptOwn s) (judge_cancel (Some s) content cancel)
leads_cancel s content cancel state changes good h =
    let a = not_refused (not (same cancel.supplier s.gln)) codes.Supplier _ changes h in
    let reference : Reference = record { supplier = s.gln; side = Cancellation; control = cancel.reference; message = [] } in
    leads_once s reference content (judge_new_cancel cancel) refl (leads_new_cancel s cancel) state changes good a.1

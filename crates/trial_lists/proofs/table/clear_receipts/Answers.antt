use Rattle.std.proofs.Common.{not, sym, subst, rules}
use Rattle.std.proofs.lemmas.Fn.{filter_same}
use Rattle.hub_parties.specs.KeyOrder.{Rises}
use Rattle.hub_tables.specs.Rows.{same, receipt_cmp}
use Rattle.hub_tables.specs.declared.rows.ReceiptRow.{ReceiptRow}
use Rattle.hub_tables.proofs.KeyOrder.{rises_filter}
use Rattle.trial_lists.proofs.table.clear_receipts.Goals as goal

pub returns-clause-items : goal.returns-clause-items
returns-clause-items c = filter_same _ _ _ (λ x b f' k. search rules) _ _ c.retain.ensures.filtered

pub returns-clause-rises : goal.returns-clause-rises
returns-clause-rises c =
    let is = filter_same _ (λ (row : ReceiptRow). not (same row.sscc c.args.sscc.now)) _
    (λ x b f' k. search rules) _ _ c.retain.ensures.filtered in
    subst (Rises receipt_cmp) (sym is) (rises_filter receipt_cmp (λ row. not (same row.sscc c.args.sscc.now)) _ c.requires)

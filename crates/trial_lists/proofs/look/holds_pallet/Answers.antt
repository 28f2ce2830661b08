use Rattle.std.proofs.Common.{◌∙◌, ap}
use Rattle.std.specs.List.{list_any}
use Rattle.hub_tables.specs.Rows.{same}
use Rattle.hub_tables.specs.declared.rows.PalletRow.{PalletRow}
use Rattle.trial_lists.proofs.Filters.{any_of_either}
use Rattle.trial_lists.proofs.look.holds_pallet.Goals as goal

pub returns : goal.returns
returns c =
    let either = any_of_either (λ (row : PalletRow). same row.sscc c.args.sscc.now)
    (λ row. same row.supplier c.args.supplier.now) c.args.pallets.now in
    c.any_from.ensures ∙ ap (list_any (λ (row : PalletRow). same row.supplier c.args.supplier.now)) c.rows_at.ensures ∙ either

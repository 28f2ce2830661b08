use Rattle.std.proofs.Common.{◌≡◌, ◌∙◌, List, IfOk, subst}
use Rattle.hub_tables.specs.Rows.{same}
use Rattle.hub_tables.specs.declared.rows.LineRow.{LineRow}
use Rattle.trial_lists.proofs.Filters.{filter_both}
use Rattle.trial_lists.proofs.look.lines_with.Goals as goal

pub returns : goal.returns
returns c =
    let both = filter_both (λ (row : LineRow). same row.supplier c.args.supplier.now)
    (λ row. same row.number c.args.number.now) c.args.lines.now in
    subst (λ (rows : List LineRow). IfOk c.copies.result (λ found. found ≡ rows)) (c.rows_at.ensures ∙ both) c.copies.ensures

use Rattle.std.proofs.Common.{◌≡◌, ◌∙◌, ◌==◌, ◌&&◌, List, IfOk, filter, subst}
use Rattle.hub_tables.specs.Rows.{same}
use Rattle.hub_tables.specs.declared.rows.LineRow.{LineRow}
use Rattle.trial_lists.proofs.Filters.{filter_both}
use Rattle.trial_lists.proofs.look.lines_at_number.Goals as goal

pub returns : goal.returns
returns c =
    let at = c.args.at.now in
    let ours = λ (row : LineRow). same row.supplier at.supplier.now in
    let order = λ (row : LineRow). same row.number at.number.now in
    let number = λ (row : LineRow). row.line == at.line in
    let both = filter_both ours (λ row. order row && number row) c.args.lines.now
    ∙ filter_both order number (filter ours c.args.lines.now) in
    subst (λ (rows : List LineRow). IfOk c.copies.result (λ found. found ≡ rows)) (c.rows_at.ensures ∙ both) c.copies.ensures

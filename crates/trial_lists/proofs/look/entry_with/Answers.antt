use Rattle.std.proofs.Common.{◌≡◌, ◌∙◌, ◌==◌, Option, IfOk, slice_get, subst, ap}
use Rattle.hub_tables.specs.Rows.{same}
use Rattle.hub_tables.specs.declared.rows.MailRow.{MailRow}
use Rattle.trial_lists.proofs.Filters.{first_of_both}
use Rattle.trial_lists.proofs.look.entry_with.Goals as goal

pub returns : goal.returns
returns c =
    let first = first_of_both (λ (row : MailRow). same row.supplier c.args.supplier.now)
    (λ row. row.number == c.args.number) c.args.mail.now in
    subst (λ (entry : Option MailRow). IfOk c.first_copy.result (λ found. found ≡ entry)) (ap
    (λ rows. slice_get rows 0) c.rows_at.ensures ∙ first) c.first_copy.ensures

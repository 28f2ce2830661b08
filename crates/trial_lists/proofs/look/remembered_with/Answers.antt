use Rattle.std.proofs.Common.{◌≡◌, ◌∙◌, ◌==◌, ◌&&◌, Some, None, sym, ap, option_map, slice_get, rules}
use Rattle.hub_tables.specs.Cases.{side_letter}
use Rattle.hub_tables.specs.Rows.{same}
use Rattle.hub_tables.specs.declared.rows.RememberedRow.{RememberedRow}
use Rattle.trial_lists.proofs.Filters.{first_of_both}
use Rattle.trial_lists.proofs.look.remembered_with.Goals as goal

pub returns-in_ok-copy_bytes-in-Some : goal.returns-in_ok-copy_bytes-in-Some
returns-in_ok-copy_bytes-in-Some c =
    let key = c.args.reference.now in
    let first = first_of_both (λ (row : RememberedRow). same row.supplier key.supplier.now)
    (λ row. (row.side == side_letter key.side) && (same row.control key.control.now && same row.message key.message.now)) c.args.rows.now in
    let there : slice_get c.rows_at.result.now 0 ≡ Some c.in-Some.row.now = search rules in
    let content : Some c.in_ok-copy_bytes-in-Some.field-0 ≡ Some c.in-Some.row.now.content = search rules in
    content ∙ sym (ap (option_map (λ (row : RememberedRow). row.content)) (sym first
    ∙ ap (λ rows. slice_get rows 0) (sym c.rows_at.ensures) ∙ there))

pub returns-in-None : goal.returns-in-None
returns-in-None c =
    let key = c.args.reference.now in
    let first = first_of_both (λ (row : RememberedRow). same row.supplier key.supplier.now)
    (λ row. (row.side == side_letter key.side) && (same row.control key.control.now && same row.message key.message.now)) c.args.rows.now in
    let none : slice_get c.rows_at.result.now 0 ≡ None = search rules in
    sym (ap (option_map (λ (row : RememberedRow). row.content)) (sym first ∙ ap (λ rows. slice_get rows 0) (sym c.rows_at.ensures) ∙ none))

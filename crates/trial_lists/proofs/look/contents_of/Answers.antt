use Rattle.std.proofs.Common.{◌≡◌, ◌∙◌, List, [], IfOk, cond, true, false, filter, sym, subst, ap, rules}
use Rattle.hub_tables.specs.Rows.{same}
use Rattle.hub_tables.specs.declared.rows.ContentRow.{ContentRow}
use Rattle.trial_lists.proofs.Filters.{contents_held}
use Rattle.trial_lists.proofs.look.contents_of.Goals as goal

pub returns-then-not-holds_pallet : goal.returns-then-not-holds_pallet
returns-then-not-holds_pallet c =
    let rows = filter (λ (row : ContentRow). same row.sscc c.args.sscc.now) c.args.contents.now in
    let held = contents_held c.args.supplier.now c.args.sscc.now c.args.pallets.now c.args.contents.now in
    let no : c.holds_pallet.result ≡ false = search rules in
    c.new.ensures ∙ sym (held ∙ ap (λ v. cond v rows []) (sym c.holds_pallet.ensures ∙ no))

pub returns : goal.returns
returns c =
    let rows = filter (λ (row : ContentRow). same row.sscc c.args.sscc.now) c.args.contents.now in
    let held = contents_held c.args.supplier.now c.args.sscc.now c.args.pallets.now c.args.contents.now in
    let yes : c.holds_pallet.result ≡ true = search rules in
    subst (λ (rows : List ContentRow). IfOk c.contents_on.result (λ found. found ≡ rows))
    (sym (held ∙ ap (λ v. cond v rows []) (sym c.holds_pallet.ensures ∙ yes))) c.contents_on.ensures

use Rattle.std.proofs.Common.{◌≡◌, ◌∙◌, true, false, ap, sym}
use Rattle.hub_register.specs.Kept.{keep_all}
use Rattle.hub_register.proofs.Kept.{right_kept}
use Rattle.hub_register.proofs.register.Register.of_rows.Goals as goal

pub returns-then-not-kept-clause-none : goal.returns-then-not-kept-clause-none
returns-then-not-kept-clause-none c =
    λ right.
    let kept : keep_all c.args.hub c.args.retailer c.args.suppliers.items ≡ true =
    right_kept c.args.hub c.args.retailer c.args.retailer_key c.args.suppliers.items right in
    let tested : c.in_ok-kept.kept ≡ keep_all c.args.hub c.args.retailer c.args.suppliers.items =
    c.in_ok-kept.ensures ∙ ap (keep_all c.args.hub c.args.retailer) c.as_slice.ensures.value in
    let both : true ≡ false = sym kept ∙ sym tested ∙ c.if-not-kept.true in
    absurd (cc)

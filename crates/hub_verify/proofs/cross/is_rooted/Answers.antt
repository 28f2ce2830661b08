use Rattle.std.proofs.Common.{◌≡◌, true, ◌&&◌, ap, sym, ◌∙◌}
use Rattle.gs1_ids.specs.Digits.{is_key}
use Rattle.gs1_ids.specs.Sscc.{under_some}
use Rattle.gs1_ids.proofs.Decided.{Decides-is_key}
use Rattle.hub_founding.specs.Fits.{is_under}
use Rattle.hub_verify.proofs.cross.is_rooted.Goals as goal

pub returns-in-Some : goal.returns-in-Some
returns-in-Some c =
    let sscc = c.args.pallet.now.sscc in
    let right : is_key 18 sscc ≡ true = (Decides-is_key 18 sscc).1 c.digits-digits.ensures.valid in
    c.is_under.ensures
    ∙ sym (ap (λ o. is_under o sscc) (sym c.in-Some.ensures.value)
    ∙ ap (λ v. v && under_some sscc c.in-Some.supplier.now.prefixes) right)

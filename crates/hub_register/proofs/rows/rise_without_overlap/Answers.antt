use Rattle.std.proofs.Common.{◌∙◌, subst}
use Rattle.gs1_ids.specs.Overlap.{NoneOverlap}
use Rattle.hub_register.proofs.Rising.{in_order_without_overlap}
use Rattle.hub_register.proofs.rows.rise_without_overlap.Goals as goal

pub returns : goal.returns
returns c = λ none.
    let rows = c.args.rows.now in
    let all = c.as_mut_slice.ensures.value ∙ c.in_ok-prefixes.ensures in
    in_order_without_overlap rows (c.glns_rise.ensures c.if-not-glns_rise.false)
    (subst NoneOverlap all (c.none_overlap.ensures.value.0 none))

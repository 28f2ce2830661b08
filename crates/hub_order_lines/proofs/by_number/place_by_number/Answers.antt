use Rattle.std.proofs.Common.{◌≡◌, Some, None, cond, slice_get, ap, ◌∙◌, sym}
use Rattle.std.proofs.lemmas.Option.{slice_get-get_or, slice_get_past, MatchOption-at_none}
use Rattle.hub_order_lines.proofs.ByNumber.{by_number_at}
use Rattle.hub_order_lines.proofs.by_number.place_by_number.Goals as goal

pub returns-in-Some-clause-some : goal.returns-in-Some-clause-some
returns-in-Some-clause-some c =
    let lines = c.args.lines.now in
    let place = c.place_from-place.result in
    let line = c.in-Some.line.now in
    let at : slice_get lines place ≡ Some line =
    slice_get-get_or lines place line c.in-Some.ensures.lookup.3.0 ∙ ap Some (sym c.in-Some.ensures.lookup.1) in (
      c.in-Some.ensures.lookup.3.0,
      by_number_at lines c.args.order.now c.args.line_number place c.requires c.place_from-place.ensures (Some line) at
          ∙ ap (λ v. cond v (Some line) None) (sym c.is_numbered.ensures ∙ c.if-is_numbered.true) ∙ sym at,
    )

pub returns-in_default-clause-none : goal.returns-in_default-clause-none
returns-in_default-clause-none c =
    let lines = c.args.lines.now in
    let place = c.place_from-place.result in
    let line = c.in-Some.line.now in
    let at : slice_get lines place ≡ Some line =
    slice_get-get_or lines place line c.in-Some.ensures.lookup.3.0 ∙ ap Some (sym c.in-Some.ensures.lookup.1) in
    by_number_at lines c.args.order.now c.args.line_number place c.requires c.place_from-place.ensures (Some line) at
    ∙ ap (λ v. cond v (Some line) None) (sym c.is_numbered.ensures ∙ c.if-is_numbered.false)

pub returns-in_default-2-clause-none : goal.returns-in_default-2-clause-none
returns-in_default-2-clause-none c =
    let lines = c.args.lines.now in
    let place = c.place_from-place.result in
    by_number_at lines c.args.order.now c.args.line_number place c.requires c.place_from-place.ensures None
    (slice_get_past lines place (MatchOption-at_none _ _ c.in_default.is c.get.ensures.lookup.3))

use Rattle.std.proofs.Common.{◌≡◌, ◌∙◌, List, ℕ, sym, ap, subst, Some}
use Rattle.std.specs.Prelude.{option_map}
use Rattle.hub_http.specs.Asked.{route_in}
use Rattle.hub_http.specs.Parts.{parts}
use Rattle.hub_http.proofs.Judging.{asked_on, asked_single}
use Rattle.hub_http.proofs.asked.check_head.Goals as goal

pub returns-in-Some : goal.returns-in-Some
returns-in-Some g c =
    let found =
    subst (λ (t : List ℕ). option_map (λ route. (route, parts route t)) c.route_in.result ≡ route_in t) c.target.ensures
    c.route_in.ensures in
    let single = c.if-not-is_single.ensures in
    c.by_route.ensures
    ∙ asked_on c.args.hub.now.0 c.args.head.now c.in-Some.route c.args.head.now.target
    ∙ asked_single c.args.hub.now.0 c.args.head.now (Some (c.in-Some.route, parts c.in-Some.route c.args.head.now.target)) (sym single)
    (sym (ap (option_map (λ route. (route, parts route c.args.head.now.target))) c.in-Some.is) ∙ found)

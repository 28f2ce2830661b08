use Rattle.std.proofs.Common.{ap, sym, ◌∙◌}
use Rattle.matchit.specs.Seek.{first}
use Rattle.hub_http.proofs.Taking.{found_parts}
use Rattle.hub_http.proofs.paths.Paths.route_of.Goals as goal

pub returns-in-Ok : goal.returns-in-Ok
returns-in-Ok c =
    let found = c.in-Ok.ensures.found in
    let router = c.self.invariant in
    sym (found_parts c.args.path.now _ (ap (λ rs. first rs c.args.path.now) (sym router) ∙ found))

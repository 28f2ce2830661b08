use Rattle.std.proofs.Common.{rules, [], ◌∷◌}
use Rattle.std.specs.Time.{instant_nanos}
use Rattle.hub_serve.specs.Connections.{Adds}
use Rattle.hub_serve.specs.Uses.{told}
use Rattle.hub_serve.proofs.Using.{asks_once, on_err}
use Rattle.hub_serve.proofs.timed.Timed.time_left.Goals as goal

pub returns-clause-asks : goal.returns-clause-asks
returns-clause-asks g c =
    let asked : Adds (g.T.Socket.uses c.args.self.now.0) (g.T.Socket.uses c.instant.new.self) (told (instant_nanos c.in_ok-now.now) ∷ [])
    = search rules in
    on_err c.match-checked_sub.result (asks_once _ _ (instant_nanos c.in_ok-now.now) asked)

use Rattle.std.proofs.Common.{rules, [], ◌∷◌, inr, refl}
use Rattle.hub_serve.specs.Connections.{Adds}
use Rattle.hub_serve.specs.Uses.{came}
use Rattle.hub_serve.proofs.Using.{adds_then}
use Rattle.hub_serve.proofs.listening.ListeningConnections.next.Goals as goal

pub returns-in-Err-begin-clause-accepts : goal.returns-in-Err-begin-clause-accepts
returns-in-Err-begin-clause-accepts g c =
    let came_first : Adds (g.L.Listener.deeds c.args.self.now.0) (g.L.Listener.deeds c.accept.new.self) (came ∷ []) = search rules in
    inr (_, refl, adds_then _ _ _ (came ∷ []) _ came_first c.close.ensures.deeds)

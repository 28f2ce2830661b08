use Rattle.std.proofs.Common.{◌≡◌, ◌≤◌, ◌-◌, ◌⊎◌, None}
use Rattle.hub_http.specs.HubCore.Hub.{RunsFrom, StaysSound}
use Rattle.hub_serve.specs.Connections.{known}
use Rattle.hub_serve.specs.Broken.{StopsAtOnce}
use Rattle.hub_serve.specs.declared.serve.OnBroken.TheVariants.{Stop}
use Rattle.hub_serve.proofs.SoFar.{ServedSoFar}
use Rattle.hub_serve.proofs.serve.serve_on.Given as goal

abbrev pub invariant-loop-number : goal.invariant-loop-number
invariant-loop-number g l = record {
  within : l.number ≤ l.count;
  going : (g.L.Connections.failed l.connections ≡ g.L.Connections.failed l.fn.connections)
      × (g.M.Moments.failed l.moments ≡ g.M.Moments.failed l.fn.moments);
  register : l.hub.0 ≡ l.fn.hub.0;
  goes_on : l.on_broken ≡ Stop → (l.number ≡ 0) ⊎ (g.S.Store.broken l.hub.1 ≡ None);
  was_honest : g.S.Store.honest l.hub.1 → g.S.Store.honest l.fn.hub.1;
  held : StaysSound g.S.Store l.fn.hub l.hub;
  so_far : ServedSoFar (RunsFrom g.S.Store l.fn.hub l.hub)
      (StopsAtOnce g.S.Store l.on_broken l.fn.hub l.hub) l.fn.hub.0
      (known (g.L.Connections.coming l.fn.connections) (g.L.Connections.closed l.fn.connections) (g.M.Moments.coming l.fn.moments))
      (known (g.L.Connections.coming l.connections) (g.L.Connections.closed l.connections) (g.M.Moments.coming l.moments))
      (g.W.Sink.contents l.fn.out) (g.W.Sink.contents l.out) (g.W.Sink.failed l.fn.out) (g.W.Sink.failed l.out) l.number l.greatest;
}

abbrev pub decreases-loop-number : goal.decreases-loop-number
decreases-loop-number g l = l.count - l.number

use Rattle.hub_serve.proofs.Using.{Away}
use Rattle.hub_serve.proofs.listening.read_away.Given as goal

abbrev pub invariant-loop-left : goal.invariant-loop-left
invariant-loop-left g l =
    Away l.fn.limit l.left l.fn.timed.1 l.timed.1 (g.T.Socket.remaining l.fn.timed.0) (g.T.Socket.remaining l.timed.0)
    (g.T.Socket.uses l.fn.timed.0) (g.T.Socket.uses l.timed.0)

abbrev pub decreases-loop-left : goal.decreases-loop-left
decreases-loop-left g l = l.left

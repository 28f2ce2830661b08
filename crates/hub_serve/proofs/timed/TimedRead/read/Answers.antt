use Rattle.std.proofs.Common.{rules, []}
use Rattle.std.specs.Time.{instant_nanos}
use Rattle.hub_serve.specs.Connections.{Adds}
use Rattle.hub_serve.specs.Uses as uses
use Rattle.hub_serve.proofs.Using.{timed_not}
use Rattle.hub_serve.proofs.timed.TimedRead.read.Goals as goal

pub returns-in_err-set_read_wait-clause-timed : goal.returns-in_err-set_read_wait-clause-timed
returns-in_err-set_read_wait-clause-timed g c =
    let left = c.in_ok-left.ensures.left in
    let none : Adds (g.T.Socket.uses c.time_left.new.self.0) (g.T.Socket.uses c.set_read_wait.new.self) [] = search rules in
    timed_not (λ x. uses.read_wait x) uses.read _ _ _ _ _ c.from_residual-in_err-set_read_wait.result (instant_nanos left.now)
    c.from_residual-in_err-set_read_wait.ensures.0 left.asked none

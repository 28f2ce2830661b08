use Rattle.hub_serve.proofs.Using.{lingers, lingers_not}
use Rattle.hub_serve.proofs.listening.linger.Goals as goal

pub returns-then-is_err-clause-uses : goal.returns-then-is_err-clause-uses
returns-then-is_err-clause-uses g c = lingers_not 1_000_000_000 _ _ c.end_sending.ensures.uses

pub returns-clause-uses : goal.returns-clause-uses
returns-clause-uses g c =
    lingers g.T.Socket.uses 1_000_000_000 _ c.end_sending.new.self _ _ c.from_secs.result _ c.end_sending.ensures.uses
    c.from_first_use-timed.ensures c.from_secs.ensures c.read_away.ensures.reads c.into_inner.ensures

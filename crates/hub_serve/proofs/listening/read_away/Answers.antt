use Rattle.std.proofs.Common.{rules, ◌≤◌}
use Rattle.hub_serve.proofs.Using.{away_more, reads_so}
use Rattle.hub_serve.proofs.listening.read_away.Goals as goal

pub returns-in_err-count-clause-reads : goal.returns-in_err-count-clause-reads
returns-in_err-count-clause-reads g c =
    reads_so _ _ _ _ c.read.new.self.1 _ _ (g.T.Socket.remaining c.read.new.self.0) _ _ _ c.loop-left.invariant c.read.result
    c.read.ensures.timed

pub returns-then-count-eq0-clause-reads : goal.returns-then-count-eq0-clause-reads
returns-then-count-eq0-clause-reads g c =
    reads_so _ _ _ _ c.read.new.self.1 _ _ (g.T.Socket.remaining c.read.new.self.0) _ _ _ c.loop-left.invariant c.read.result
    c.read.ensures.timed

pub loop-left-preserved : goal.loop-left-preserved
loop-left-preserved g c =
    let fits : c.in_ok-count.count ≤ c.loop-left.left = search rules in
    away_more _ _ _ _ c.read.new.self.1 _ _ (g.T.Socket.remaining c.read.new.self.0) _ _ _ c.loop-left.invariant
    c.in_ok-count.ensures.timed _ c.in_ok-count.count c.in_ok-count.ensures.bytes.0 fits

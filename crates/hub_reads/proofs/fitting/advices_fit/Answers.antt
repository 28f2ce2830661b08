use Rattle.sqlite.specs.Held.{state}
use Rattle.hub_reads.proofs.OfOldRows.{advices_tell}
use Rattle.hub_reads.proofs.fitting.advices_fit.Goals as goal

pub returns-clause-looks : goal.returns-clause-looks
returns-clause-looks g c =
    advices_tell c.args.register.now (state g.S.Store c.args.conn.now) (state g.S.Store c.are_registered.new.conn)
    c.are_registered.result c.are_registered.ensures.asks

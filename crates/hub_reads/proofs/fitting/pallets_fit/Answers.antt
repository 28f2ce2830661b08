use Rattle.sqlite.specs.Held.{state}
use Rattle.hub_reads.proofs.OfOldRows.{pallets_tell}
use Rattle.hub_reads.proofs.fitting.pallets_fit.Goals as goal

pub returns-clause-looks : goal.returns-clause-looks
returns-clause-looks g c =
    pallets_tell c.args.register.now (state g.S.Store c.args.conn.now) (state g.S.Store c.do_pallets_fit.new.conn)
    c.do_pallets_fit.result c.do_pallets_fit.ensures.asks

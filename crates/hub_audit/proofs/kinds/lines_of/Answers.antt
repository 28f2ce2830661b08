use Rattle.sqlite.specs.Held.{state}
use Rattle.hub_audit.proofs.Traffic.{lines_read}
use Rattle.hub_audit.proofs.kinds.lines_of.Goals as goal

pub returns-clause-looks : goal.returns-clause-looks
returns-clause-looks g c =
    lines_read c.args.supplier.now (state g.S.Store c.args.conn.now) (state g.S.Store c.every.new.conn) c.every.result c.every.ensures.asks

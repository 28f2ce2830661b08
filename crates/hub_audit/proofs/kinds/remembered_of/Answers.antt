use Rattle.sqlite.specs.Held.{state}
use Rattle.hub_audit.proofs.Traffic.{remembered_read}
use Rattle.hub_audit.proofs.kinds.remembered_of.Goals as goal

pub returns-clause-looks : goal.returns-clause-looks
returns-clause-looks g c =
    remembered_read c.args.supplier.now (state g.S.Store c.args.conn.now) (state g.S.Store c.every.new.conn)
    c.every.result c.every.ensures.asks

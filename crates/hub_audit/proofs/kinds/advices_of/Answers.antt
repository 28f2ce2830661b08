use Rattle.sqlite.specs.Held.{state}
use Rattle.hub_audit.proofs.Traffic.{advices_read}
use Rattle.hub_audit.proofs.kinds.advices_of.Goals as goal

pub returns-clause-looks : goal.returns-clause-looks
returns-clause-looks g c =
    advices_read c.args.supplier.now (state g.S.Store c.args.conn.now) (state g.S.Store c.every.new.conn)
    c.every.result c.every.ensures.asks

use Rattle.sqlite.specs.Held.{state}
use Rattle.hub_audit.proofs.Parties.{suppliers_read}
use Rattle.hub_audit.proofs.kinds.every_supplier.Goals as goal

pub returns-clause-looks : goal.returns-clause-looks
returns-clause-looks g c =
    suppliers_read (state g.S.Store c.args.conn.now) (state g.S.Store c.every.new.conn) c.every.result c.every.ensures.asks

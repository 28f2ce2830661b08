use Rattle.sqlite.specs.Held.{state}
use Rattle.hub_audit.proofs.Parties.{hubs_read}
use Rattle.hub_audit.proofs.kinds.every_hub.Goals as goal

pub returns-clause-looks : goal.returns-clause-looks
returns-clause-looks g c =
    hubs_read (state g.S.Store c.args.conn.now) (state g.S.Store c.every.new.conn) c.every.result c.every.ensures.asks

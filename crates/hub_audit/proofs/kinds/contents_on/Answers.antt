use Rattle.sqlite.specs.Held.{state}
use Rattle.hub_audit.proofs.Traffic.{contents_read}
use Rattle.hub_audit.proofs.kinds.contents_on.Goals as goal

pub returns-clause-looks : goal.returns-clause-looks
returns-clause-looks g c =
    contents_read c.args.sscc.now (state g.S.Store c.args.conn.now) (state g.S.Store c.every.new.conn) c.every.result c.every.ensures.asks

use Rattle.sqlite.specs.Held.{state}
use Rattle.hub_audit.proofs.Receiving.{received_looked}
use Rattle.hub_audit.proofs.received.has_received_pallet.Goals as goal

pub returns : goal.returns
returns g c =
    received_looked (state g.S.Store c.args.conn.now) (state g.S.Store c.has_row.new.conn) c.args.sscc.now c.has_row.result
    (rw c.digits.ensures.value at c.has_row.ensures.asks)

use Rattle.sqlite.specs.Held.{state}
use Rattle.hub_reads.proofs.Knowing.{order_looks}
use Rattle.hub_reads.proofs.order.order_known.Goals as goal

pub returns : goal.returns
returns g c = record {
  looks = order_looks (state g.S.Store c.args.conn.now)
      (state g.S.Store c.has_row.new.conn) c.args.supplier.now c.args.number.now c.has_row.result
      (rw c.digits.ensures.value at c.has_row.ensures.asks);
}

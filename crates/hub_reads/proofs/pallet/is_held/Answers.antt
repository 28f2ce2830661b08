use Rattle.sqlite.specs.Held.{state}
use Rattle.hub_reads.proofs.OfGoods.{held_look}
use Rattle.hub_reads.proofs.pallet.is_held.Goals as goal

pub returns : goal.returns
returns g c = record {
  looks = held_look (state g.S.Store c.args.conn.now)
      (state g.S.Store c.has_row.new.conn) c.args.supplier.now c.args.sscc.now c.has_row.result
      (rw (c.digits.ensures.value, c.digits-2.ensures.value) at c.has_row.ensures.asks);
}

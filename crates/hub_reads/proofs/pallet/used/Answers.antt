use Rattle.sqlite.specs.Held.{state}
use Rattle.hub_reads.proofs.OfPallets.{used_look}
use Rattle.hub_reads.proofs.pallet.used.Goals as goal

pub returns : goal.returns
returns g c = record {
  looks = used_look (state g.S.Store c.args.conn.now) (state g.S.Store c.has_row.new.conn) c.args.sscc.now c.has_row.result
      (rw c.digits.ensures.value at c.has_row.ensures.asks);
}

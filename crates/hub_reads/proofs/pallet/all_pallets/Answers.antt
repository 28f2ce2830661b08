use Rattle.sqlite.specs.Held.{state}
use Rattle.hub_reads.proofs.OfPallets.{all_pallets_look}
use Rattle.hub_reads.proofs.pallet.all_pallets.Goals as goal

pub returns-clause-looks : goal.returns-clause-looks
returns-clause-looks g c =
    all_pallets_look (state g.S.Store c.args.conn.now) (state g.S.Store c.rows_of.new.conn) c.args.supplier.now c.rows_of.result
    (rw c.digits.ensures.value at c.rows_of.ensures.asks)

use Rattle.sqlite.specs.Held.{state}
use Rattle.hub_reads.proofs.OfPallets.{pallet_look}
use Rattle.hub_reads.proofs.pallet.pallet_of.Goals as goal

pub returns-clause-looks : goal.returns-clause-looks
returns-clause-looks g c =
    pallet_look (state g.S.Store c.args.conn.now)
    (state g.S.Store c.first_of.new.conn) c.args.supplier.now c.args.sscc.now c.first_of.result
    (rw (c.digits.ensures.value, c.digits-2.ensures.value) at c.first_of.ensures.asks)

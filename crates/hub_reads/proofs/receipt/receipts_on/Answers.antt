use Rattle.sqlite.specs.Held.{state}
use Rattle.hub_reads.proofs.OfGoods.{receipts_look}
use Rattle.hub_reads.proofs.receipt.receipts_on.Goals as goal

pub returns-clause-looks : goal.returns-clause-looks
returns-clause-looks g c =
    receipts_look (state g.S.Store c.args.conn.now) (state g.S.Store c.rows_of.new.conn) c.args.sscc.now c.rows_of.result
    (rw c.digits.ensures.value at c.rows_of.ensures.asks)

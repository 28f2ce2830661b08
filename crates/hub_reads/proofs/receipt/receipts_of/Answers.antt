use Rattle.sqlite.specs.Held.{state}
use Rattle.hub_reads.proofs.OfGoods.{receipts_seen, receipts_unseen}
use Rattle.hub_reads.proofs.receipt.receipts_of.Goals as goal

pub returns-then-not-own-clause-looks : goal.returns-then-not-own-clause-looks
returns-then-not-own-clause-looks g c =
    receipts_unseen (state g.S.Store c.args.conn.now) (state g.S.Store c.is_held.new.conn) c.args.supplier.now c.args.sscc.now
    c.in_ok-own.own c.new.result c.if-not-own.true c.new.ensures c.in_ok-own.ensures.looks

pub returns-clause-looks : goal.returns-clause-looks
returns-clause-looks g c =
    receipts_seen (state g.S.Store c.args.conn.now) (state g.S.Store c.is_held.new.conn) (state g.S.Store c.receipts_on.new.conn)
    c.args.supplier.now c.args.sscc.now c.in_ok-own.own c.if-not-own.false c.in_ok-own.ensures.looks
    c.receipts_on.result c.receipts_on.ensures.looks

use Rattle.sqlite.specs.Held.{state}
use Rattle.hub_reads.proofs.OfGoods.{contents_seen, contents_unseen}
use Rattle.hub_reads.proofs.content.contents_of.Goals as goal

pub returns-then-not-held-clause-looks : goal.returns-then-not-held-clause-looks
returns-then-not-held-clause-looks g c =
    contents_unseen (state g.S.Store c.args.conn.now) (state g.S.Store c.is_held.new.conn) c.args.supplier.now c.args.sscc.now
    c.in_ok-held.held c.new.result c.if-not-held.true c.new.ensures c.in_ok-held.ensures.looks

pub returns-clause-looks : goal.returns-clause-looks
returns-clause-looks g c =
    contents_seen (state g.S.Store c.args.conn.now) (state g.S.Store c.is_held.new.conn) (state g.S.Store c.contents_on.new.conn)
    c.args.supplier.now c.args.sscc.now c.in_ok-held.held c.if-not-held.false c.in_ok-held.ensures.looks
    c.contents_on.result c.contents_on.ensures.looks

use Rattle.std.proofs.Common.{arith, refl}
use Rattle.hub_verify.proofs.Findings.{begins, passes, fails, ends}
use Rattle.hub_verify.proofs.cross.first_misplaced.Goals as goal

pub loop-row-init : goal.loop-row-init
loop-row-init g c = begins g.S.AllRows.content g.S.AllRows.honest g.T.Placed.in_place c.args.rows.now c.args.store.now

pub loop-row-preserved : goal.loop-row-preserved
loop-row-preserved g c =
    passes g.S.AllRows.content g.S.AllRows.honest g.T.Placed.in_place c.args.rows.now c.loop-row.row-index c.row-item.result
    c.loop-row-test.true c.row-item.is c.args.store.now c.loop-row.store c.is_placed.new.store c.loop-row.invariant
    c.in_ok-placed.placed c.in_ok-placed.ensures c.if-not-placed.false

pub returns-then-not-placed : goal.returns-then-not-placed
returns-then-not-placed g c =
    fails g.S.AllRows.content g.S.AllRows.honest g.T.Placed.in_place c.args.rows.now c.loop-row.row-index c.row-item.result
    c.loop-row-test.true c.row-item.is c.args.store.now c.loop-row.store c.is_placed.new.store c.loop-row.invariant
    c.in_ok-placed.placed c.in_ok-placed.ensures c.if-not-placed.true _ refl

pub returns : goal.returns
returns g c =
    ends g.S.AllRows.content g.S.AllRows.honest g.T.Placed.in_place c.args.rows.now c.loop-row.row-index
    (omega (arith, c.loop-row-test.false)) c.args.store.now c.loop-row.store c.loop-row.invariant

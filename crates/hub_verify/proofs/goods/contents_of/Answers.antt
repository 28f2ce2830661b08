use Rattle.std.proofs.Common.{arith}
use Rattle.hub_verify.proofs.Gathered.{gather_more, gather_ends}
use Rattle.hub_verify.proofs.goods.contents_of.Goals as goal

pub loop-pallet-preserved : goal.loop-pallet-preserved
loop-pallet-preserved g c =
    gather_more g.S.AllRows.content g.S.AllRows.honest c.args.pallets.now c.loop-pallet.pallet-index c.pallet-item.result
    c.loop-pallet-test.true c.pallet-item.is c.args.store.now c.loop-pallet.store c.rows_with.new.store c.loop-pallet.found
    c.in_ok-rows.rows c.put_all.new.found c.in_ok-put_all.ensures c.digits-sscc.result.now c.digits-sscc.ensures.value
    c.loop-pallet.invariant c.in_ok-rows.ensures

pub returns : goal.returns
returns g c =
    gather_ends g.S.AllRows.content g.S.AllRows.honest c.args.pallets.now c.loop-pallet.pallet-index (omega (
      arith,
      c.loop-pallet-test.false,
    )) c.args.store.now
    c.loop-pallet.store c.loop-pallet.found c.loop-pallet.invariant

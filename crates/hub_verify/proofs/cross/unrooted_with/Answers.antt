use Rattle.hub_verify.proofs.Crossing.{rooted_none, rooted_some}
use Rattle.hub_verify.proofs.cross.unrooted_with.Goals as goal

pub returns-in_default : goal.returns-in_default
returns-in_default g c =
    rooted_none g.S.AllRows.content g.S.AllRows.honest c.args.register.now c.args.supplier.now c.args.store.now
    c.rows_with.new.store c.in_ok-pallets.pallets c.as_slice.result.now c.as_slice.ensures c.in_ok-pallets.ensures
    c.in_default.ensures

pub returns : goal.returns
returns g c =
    rooted_some g.S.AllRows.content g.S.AllRows.honest c.args.register.now c.args.supplier.now c.args.store.now
    c.rows_with.new.store c.in_ok-pallets.pallets c.as_slice.result.now c.as_slice.ensures c.in_ok-pallets.ensures
    c.in-Some.pallet.now c.in-Some.ensures c.in_ok-found.found c.in_ok-found.ensures

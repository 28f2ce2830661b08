use Rattle.hub_verify.proofs.Gathered.{misfit_told}
use Rattle.hub_verify.proofs.goods.misfit_of.Goals as goal

pub returns : goal.returns
returns g c =
    misfit_told g.S.AllRows.content g.S.AllRows.honest c.args.supplier.now c.args.store.now c.lines_of.new.store
    c.pallets_of.new.store c.contents_of.new.store c.in_ok-lines.lines c.in_ok-pallets.pallets c.in_ok-contents.contents
    c.as_slice-rows.result.now c.as_slice-despatched.result.now c.as_slice-goods.result.now c.in_ok-found.found c.as_slice-rows.ensures
    c.as_slice-despatched.ensures c.as_slice-goods.ensures c.in_ok-lines.ensures c.in_ok-pallets.ensures c.in_ok-contents.ensures
    c.in_ok-found.ensures

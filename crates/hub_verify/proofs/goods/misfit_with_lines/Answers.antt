use Rattle.hub_verify.proofs.Gathered.{with_lines_told}
use Rattle.hub_verify.proofs.goods.misfit_with_lines.Goals as goal

pub returns : goal.returns
returns g c =
    with_lines_told g.S.AllRows.content g.S.AllRows.honest c.args.supplier.now c.args.store.now c.misfit_of.new.store
    c.in_ok-found.found c.in_ok-found.ensures

use Rattle.hub_verify.proofs.Gathered.{goods_told, lines_misfit}
use Rattle.hub_verify.proofs.goods.unsound_goods.Goals as goal

pub returns-in-Some : goal.returns-in-Some
returns-in-Some g c =
    lines_misfit g.S.AllRows.content g.S.AllRows.honest c.args.store.now c.misfit_of_lines.new.store c.in_ok-of_lines.of_lines
    c.in-Some.found c.in-Some.is c.in_ok-of_lines.ensures

pub returns : goal.returns
returns g c =
    goods_told g.S.AllRows.content g.S.AllRows.honest c.args.store.now c.misfit_of_lines.new.store c.misfit_of_pallets.new.store
    c.in_ok-of_lines.of_lines c.in_default.is c.in_ok-found.found c.in_ok-of_lines.ensures c.in_ok-found.ensures

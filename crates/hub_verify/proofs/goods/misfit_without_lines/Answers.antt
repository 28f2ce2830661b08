use Rattle.std.proofs.Common.{sym, ◌∙◌}
use Rattle.hub_verify.proofs.Gathered.{lines_told, without_lines_told}
use Rattle.hub_verify.proofs.goods.misfit_without_lines.Goals as goal

pub returns-then-not-none : goal.returns-then-not-none
returns-then-not-none g c =
    lines_told g.S.AllRows.content g.S.AllRows.honest c.args.supplier.now c.args.store.now c.lines_of.new.store
    c.in_ok-lines.lines (sym c.is_empty-none.ensures ∙ c.if-not-none.true) c.in_ok-lines.ensures

pub returns : goal.returns
returns g c =
    without_lines_told g.S.AllRows.content g.S.AllRows.honest c.args.supplier.now c.args.store.now c.lines_of.new.store
    c.misfit_of.new.store c.in_ok-lines.lines c.in_ok-found.found c.in_ok-lines.ensures c.in_ok-found.ensures

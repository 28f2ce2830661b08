use Rattle.std.proofs.Common.{rules}
use Rattle.hub_schema.specs.Cells.{number_in}
use Rattle.sqlite_value.specs.Order.{column}
use Rattle.hub_rows.proofs.Unclean.{no_case}
use Rattle.hub_rows.proofs.values.case_at.Goals as goal

pub returns-in_err-number_at-clause-unclean : goal.returns-in_err-number_at-clause-unclean
returns-in_err-number_at-clause-unclean g c =
    λ e. no_case g.C.Case.number g.C.Case.small (number_in (column c.args.row.now c.args.at)) g.C.Case.every
    (c.number_at.ensures.unclean (search rules))

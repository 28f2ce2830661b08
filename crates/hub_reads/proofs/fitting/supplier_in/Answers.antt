use Rattle.std.proofs.Common.{sym, ap, ◌∙◌}
use Rattle.hub_parties.specs.Rows.{row_of}
use Rattle.hub_schema.specs.Cells.{bytes_in}
use Rattle.sqlite_value.specs.Order.{column}
use Rattle.hub_reads.proofs.OfOldRows.{nobodys}
use Rattle.hub_reads.proofs.fitting.supplier_in.Goals as goal

pub returns-in-Err : goal.returns-in-Err
returns-in-Err c =
    sym (nobodys c.args.register.now c.hub-register.ensures.register (bytes_in (column c.args.row.now c.args.at))
    c.in-Err.ensures.unclean.1)

pub returns-in-Ok : goal.returns-in-Ok
returns-in-Ok c = c.supplier.ensures.value ∙ ap (row_of c.args.register.now) c.in-Ok.ensures.ok

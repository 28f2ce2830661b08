use Rattle.std.proofs.Common.{sym, ap, ◌∙◌}
use Rattle.std.specs.Option.{option_copied}
use Rattle.hub_parties.specs.Rows.{row_of}
use Rattle.hub_schema.specs.Cells.{bytes_in}
use Rattle.sqlite_value.specs.Order.{column}
use Rattle.hub_reads.proofs.OfOldRows.{no_sscc, an_sscc}
use Rattle.hub_reads.proofs.fitting.pallet_fits.Goals as goal

pub returns-in-Err : goal.returns-in-Err
returns-in-Err c =
    sym (no_sscc (row_of c.args.register.now (bytes_in (column c.args.row.now 1))) (bytes_in (column c.args.row.now 0))
    c.in-Err.ensures.unclean.1)

pub returns-in-Ok : goal.returns-in-Ok
returns-in-Ok c =
    c.is_under.ensures
    ∙ sym (an_sscc (row_of c.args.register.now (bytes_in (column c.args.row.now 1))) c.in-Some.supplier.now
    (bytes_in (column c.args.row.now 0)) c.in-Ok.sscc
    (sym c.supplier_in.ensures ∙ ap option_copied c.in-Some.is) c.in-Ok.ensures.right c.in-Ok.ensures.ok)

use Rattle.std.proofs.Common.{◌++◌, codes}
use Rattle.std.proofs.lemmas.Result.{on_err_weaker}
use Rattle.edi_relay.proofs.Lines.{on_err}
use Rattle.hub_commands.proofs.Output.{lost_first, lost_second, written_as, lost_as}
use Rattle.hub_commands.proofs.print.print_file_line.Goals as goal

pub returns-in_err-print-clause-err : goal.returns-in_err-print-clause-err
returns-in_err-print-clause-err g c =
    on_err c.from_residual.result (lost_first (c.args.name.now ++ codes "\n") c.in_err-print.ensures.err)

pub returns-in_err-print-2-clause-err : goal.returns-in_err-print-2-clause-err
returns-in_err-print-2-clause-err g c =
    on_err c.from_residual-in_err-print-2.result
    (lost_second c.in_ok-print.ensures.ok (lost_first (codes "\n") (lost_as c.as_bytes.ensures.value c.in_err-print-2.ensures.err)))

pub returns-clause-err : goal.returns-clause-err
returns-clause-err g c =
    on_err_weaker c.print-3.result
    (λ lost. lost_second c.in_ok-print.ensures.ok (lost_second (written_as c.as_bytes.ensures.value c.in_ok-print-2.ensures.ok) lost))
    c.print-3.ensures.err

use Rattle.std.proofs.Common.{◌++◌, decimal}
use Rattle.edi_base.proofs.Going.{puts_cut}
use Rattle.http_messages.proofs.Chain.{puts_then, stops, then_stops}
use Rattle.hub_serve.proofs.line.put_number.Goals as goal

pub returns-in_err-put-clause-bytes : goal.returns-in_err-put-clause-bytes
returns-in_err-put-clause-bytes g c =
    puts_cut c.from_residual.result _ c.from_residual.ensures.0
    (stops (decimal c.args.number ++ c.args.after.now) c.in_err-put.ensures.bytes)

pub returns-in_err-put-2-clause-bytes : goal.returns-in_err-put-2-clause-bytes
returns-in_err-put-2-clause-bytes g c =
    let cut = rw (c.as_bytes.ensures.value, c.format.ensures.text) at c.in_err-put-2.ensures.bytes in
    puts_cut c.from_residual-in_err-put-2.result _ c.from_residual-in_err-put-2.ensures.0
    (then_stops c.in_ok-put.ensures.bytes (stops c.args.after.now cut))

pub returns-clause-bytes : goal.returns-clause-bytes
returns-clause-bytes g c =
    let digits = rw (c.as_bytes.ensures.value, c.format.ensures.text) at c.in_ok-put-2.ensures.bytes in
    puts_then (decimal c.args.number ++ c.args.after.now) c.put-3.result _ _ c.in_ok-put.ensures.bytes
    (puts_then c.args.after.now c.put-3.result _ _ digits c.put-3.ensures.bytes)

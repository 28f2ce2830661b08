use Rattle.std.proofs.Common.{◌++◌, decimal}
use Rattle.edi_base.proofs.Going.{puts_cut}
use Rattle.http_messages.proofs.Chain.{puts_as, puts_then, stops, then_stops}
use Rattle.http_messages.proofs.Pieces.{after_length, head_pieces}
use Rattle.http_messages.proofs.response.put_head.Goals as goal

pub returns-in_err-put_all-clause-bytes : goal.returns-in_err-put_all-clause-bytes
returns-in_err-put_all-clause-bytes g c =
    let cut = rw (c.as_bytes-code.ensures.value, c.as_str.ensures, c.as_bytes-words.ensures.value, c.phrase.ensures)
    at c.in_err-put_all.ensures.bytes in
    puts_as c.from_residual.result _ _ _ _ (head_pieces c.args.status c.args.size)
    (puts_cut c.from_residual.result _ c.from_residual.ensures.0 (stops (decimal c.args.size ++ after_length) cut))

pub returns-in_err-put-clause-bytes : goal.returns-in_err-put-clause-bytes
returns-in_err-put-clause-bytes g c =
    let put = rw (c.as_bytes-code.ensures.value, c.as_str.ensures, c.as_bytes-words.ensures.value, c.phrase.ensures)
    at c.in_ok-put_all.ensures.bytes in
    let cut = rw (c.as_bytes.ensures.value, c.format.ensures.text) at c.in_err-put.ensures.bytes in
    puts_as c.from_residual-in_err-put.result _ _ _ _ (head_pieces c.args.status c.args.size)
    (puts_cut c.from_residual-in_err-put.result _ c.from_residual-in_err-put.ensures.0 (then_stops put (stops after_length cut)))

pub returns-clause-bytes : goal.returns-clause-bytes
returns-clause-bytes g c =
    let put = rw (c.as_bytes-code.ensures.value, c.as_str.ensures, c.as_bytes-words.ensures.value, c.phrase.ensures)
    at c.in_ok-put_all.ensures.bytes in
    let digits = rw (c.as_bytes.ensures.value, c.format.ensures.text) at c.in_ok-put.ensures.bytes in
    puts_as c.put-2.result _ _ _ _ (head_pieces c.args.status c.args.size)
    (puts_then (decimal c.args.size ++ after_length) c.put-2.result _ _ put
    (puts_then after_length c.put-2.result _ _ digits c.put-2.ensures.bytes))

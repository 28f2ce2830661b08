use Rattle.std.proofs.Common.{[], subst}
use Rattle.std.proofs.lemmas.List.{append-nil}
use Rattle.edi_base.proofs.Going.{puts_cut}
use Rattle.http_messages.proofs.Chain.{goes_then, puts_then, stops, then_stops, writes}
use Rattle.http_messages.specs.Response.{http_text, Writes}
use Rattle.http_messages.proofs.response.write_response.Goals as goal

pub returns-in_err-put_head-clause-bytes : goal.returns-in_err-put_head-clause-bytes
returns-in_err-put_head-clause-bytes g c =
    writes _ _ c.from_residual.result _ [] (λ i. [])
    (puts_cut c.from_residual.result [] c.from_residual.ensures.0
    (stops c.args.body.now (rw c.new-waiting.ensures at c.in_err-put_head.ensures.bytes)))

pub returns-in_err-put-clause-bytes : goal.returns-in_err-put-clause-bytes
returns-in_err-put-clause-bytes g c =
    writes _ _ c.from_residual-in_err-put.result _ [] (λ i. [])
    (puts_cut c.from_residual-in_err-put.result [] c.from_residual-in_err-put.ensures.0
    (then_stops (rw c.new-waiting.ensures at c.in_ok-put_head.ensures.bytes) c.in_err-put.ensures.bytes))

pub returns-clause-bytes : goal.returns-clause-bytes
returns-clause-bytes g c =
    let head = rw c.new-waiting.ensures at c.in_ok-put_head.ensures.bytes in
    let both = goes_then head c.in_ok-put.ensures.bytes in
    subst (λ l. Writes c.flush.result (g.W.Sink.contents c.args.out.now) (g.W.Sink.contents c.flush.new.out) l)
    (append-nil (http_text c.args.status c.args.body.now))
    (writes _ _ c.flush.result _ [] (λ i. []) (puts_then [] c.flush.result _ _ both c.flush.ensures.bytes))

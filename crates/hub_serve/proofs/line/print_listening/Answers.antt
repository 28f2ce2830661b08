use Rattle.std.proofs.Common.{ℕ, List, [], subst}
use Rattle.std.proofs.lemmas.List.{append-nil}
use Rattle.http_messages.proofs.Chain.{puts_then, writes}
use Rattle.http_messages.specs.Response.{Writes}
use Rattle.hub_serve.specs.Line.{port_line}
use Rattle.hub_serve.proofs.line.print_listening.Goals as goal

pub returns-clause-bytes : goal.returns-clause-bytes
returns-clause-bytes g c =
    let line = rw (c.new-waiting.ensures, c.from.ensures) at c.in_ok-put_number.ensures.bytes in
    subst (λ (l : List ℕ). Writes c.flush.result (g.W.Sink.contents c.args.out.now) (g.W.Sink.contents c.flush.new.out) l)
    (append-nil (port_line c.args.port))
    (writes _ _ c.flush.result _ [] (λ i. []) (puts_then [] c.flush.result _ _ line c.flush.ensures.bytes))

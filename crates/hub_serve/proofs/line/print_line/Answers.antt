use Rattle.std.proofs.Common.{◌≡◌, ℕ, List, [], ◌++◌, codes, decimal, ap, subst, ◌∙◌, append_assoc}
use Rattle.std.proofs.lemmas.List.{append-nil}
use Rattle.edi_base.proofs.Going.{puts_cut}
use Rattle.http_messages.proofs.Chain.{goes_then, puts_then, stops, then_stops, writes}
use Rattle.http_messages.specs.Response.{Writes}
use Rattle.hub_serve.specs.Line.{end_of, line_of}
use Rattle.hub_serve.specs.declared.line.Ending.{Ending}
use Rattle.hub_serve.proofs.line.print_line.Goals as goal

-- the text of a line, from its beginning
whole : (number : ℕ) (ending : Ending)
    → (codes "connection " ++ (decimal number ++ codes " ")) ++ end_of ending ≡ line_of number ending
whole number ending = ap (λ (t : List ℕ). codes "connection " ++ t) (append_assoc (decimal number) (codes " ") (end_of ending))

pub returns-in_err-put_number-clause-bytes : goal.returns-in_err-put_number-clause-bytes
returns-in_err-put_number-clause-bytes g c =
    let cut = rw c.new-waiting.ensures at c.in_err-put_number.ensures.bytes in
    subst (λ (l : List ℕ). Writes c.from_residual.result (g.W.Sink.contents c.args.out.now) (g.W.Sink.contents c.put_number.new.out) l)
    (whole c.args.number c.args.ending)
    (writes _ _ c.from_residual.result _ [] (λ i. [])
    (puts_cut c.from_residual.result [] c.from_residual.ensures.0 (stops (end_of c.args.ending) cut)))

pub returns-in_err-put_end-clause-bytes : goal.returns-in_err-put_end-clause-bytes
returns-in_err-put_end-clause-bytes g c =
    let front = rw c.new-waiting.ensures at c.in_ok-put_number.ensures.bytes in
    subst (λ (l : List ℕ). Writes c.from_residual-in_err-put_end.result (g.W.Sink.contents c.args.out.now)
    (g.W.Sink.contents c.put_end.new.out) l)
    (whole c.args.number c.args.ending)
    (writes _ _ c.from_residual-in_err-put_end.result _ [] (λ i. [])
    (puts_cut c.from_residual-in_err-put_end.result [] c.from_residual-in_err-put_end.ensures.0
    (then_stops front c.in_err-put_end.ensures.bytes)))

pub returns-clause-bytes : goal.returns-clause-bytes
returns-clause-bytes g c =
    let front = rw c.new-waiting.ensures at c.in_ok-put_number.ensures.bytes in
    let both = goes_then front c.in_ok-put_end.ensures.bytes in
    subst (λ (l : List ℕ). Writes c.flush.result (g.W.Sink.contents c.args.out.now) (g.W.Sink.contents c.flush.new.out) l)
    (append-nil _ ∙ whole c.args.number c.args.ending)
    (writes _ _ c.flush.result _ [] (λ i. []) (puts_then [] c.flush.result _ _ both c.flush.ensures.bytes))

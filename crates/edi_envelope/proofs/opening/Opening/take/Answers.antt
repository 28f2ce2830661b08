use Rattle.edi_envelope.proofs.OpenLemmas.{keeps}
use Rattle.edi_envelope.proofs.opening.Opening.take.Goals as goal

pub returns : goal.returns
returns c = λ lent stands.
    let next = c.in_ok-place.ensures in
    keeps lent c.args.segment _ c.args.self.now c.next.new.self c.in_ok-place.place c.of.ensures stands
    (next.checked lent stands.checked) (next.placed lent stands.checked) next.refused.0 next.for_good
    c.keep.result c.keep.new.self (λ gathers known placed. c.keep.ensures lent gathers known placed)

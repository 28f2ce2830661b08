use Rattle.std.proofs.Common.{List, sym, subst}
use Rattle.edi_segments.specs.declared.segment.Segment.{Segment}
use Rattle.edi_envelope.specs.Gathered.{OpeningStands}
use Rattle.edi_envelope.proofs.OpenLemmas.{few_opened}
use Rattle.edi_envelope.proofs.opening.open.Goals as goal

pub returns-clause-few : goal.returns-clause-few
returns-clause-few c =
    few_opened c.loop-segment.yielded c.args.tokens.service.decimal c.finish.result
    (λ tokens same mark.
    c.finish.ensures tokens (subst (λ (l : List Segment). OpeningStands l c.loop-segment.opening) (sym same) c.loop-segment.invariant) mark)

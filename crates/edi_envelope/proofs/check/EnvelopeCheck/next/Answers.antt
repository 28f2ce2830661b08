use Rattle.std.proofs.Common.{sym, ◌∙◌}
use Rattle.std.proofs.lemmas.Bool.{true≢false}
use Rattle.edi_envelope.proofs.check.EnvelopeCheck.next.Goals as goal

pub returns-clause-refused : goal.returns-clause-refused
returns-clause-refused c = (
  c.in-Ok.ensures.refuses,
  λ bad. absurd (true≢false (sym c.if-not-is_fine.false ∙ c.is_fine.ensures ∙ bad)),
)

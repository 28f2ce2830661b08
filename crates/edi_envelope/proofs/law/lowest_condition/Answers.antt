use Rattle.std.proofs.Common.{sym, subst}
use Rattle.edi_envelope.specs.Law.{IsInterchange}
use Rattle.edi_envelope.proofs.LawLemmas.{fault_law, contents_law, contents_again}
use Rattle.edi_envelope.proofs.JoinLemmas.{IsInterchange-contents, contents-from_IsInterchange}
use Rattle.edi_envelope.proofs.law.lowest_condition.Goals as goal

pub returns-clause-fault : goal.returns-clause-fault
returns-clause-fault c = fault_law

pub returns-clause-interchange : goal.returns-clause-interchange
returns-clause-interchange c = λ tokens i. (
  (λ h. let both = contents_law tokens i h in (both.0, subst (IsInterchange tokens) (sym both.1) (IsInterchange-contents tokens both.0))),
  (λ h. contents_again tokens i h.0 (contents-from_IsInterchange tokens i h.1)),
)

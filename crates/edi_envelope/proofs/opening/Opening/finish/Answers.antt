use Rattle.std.proofs.Common.{◌∙◌}
use Rattle.edi_envelope.proofs.OpenLemmas.{interchange_of-fault, opened_as, has_head}
use Rattle.edi_envelope.proofs.opening.Opening.finish.Goals as goal

pub returns-in-Some : goal.returns-in-Some
returns-in-Some c = λ tokens stands mark.
    interchange_of-fault tokens c.in-Some.fault (c.fault.ensures.fault tokens.segments stands.checked ∙ c.in-Some.is)

pub returns-in-Some-interchange : goal.returns-in-Some-interchange
returns-in-Some-interchange c = λ tokens stands mark.
    opened_as tokens c.args.self stands (c.fault.ensures.fault tokens.segments stands.checked ∙ c.in_default.is)
    (c.fault.ensures.fine c.in_default.is) c.args.decimal c.in-Some-interchange.interchange mark c.in-Some-interchange.ensures

pub returns : goal.returns
returns c = λ tokens stands mark.
    has_head tokens c.args.self stands (c.fault.ensures.fault tokens.segments stands.checked ∙ c.in_default.is)
    (c.fault.ensures.fine c.in_default.is) c.in-None.ensures _

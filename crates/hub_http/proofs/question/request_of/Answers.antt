use Rattle.std.proofs.Common.{◌∙◌, ap, sym}
use Rattle.hub_core.specs.HubTexts.Cancel.{cancel_of}
use Rattle.hub_http.specs.Question.{request_with}
use Rattle.hub_http.specs.Wording.{asked_as}
use Rattle.hub_http.proofs.question.request_of.Goals as goal

pub returns-clause-value : goal.returns-clause-value
returns-clause-value c =
    c.request_for.ensures.value (λ at. c.in_ok-cancel.ensures.value at ∙ ap cancel_of c.as_slice.ensures)
    ∙ ap (request_with (asked_as c.args.asked.now)) (sym c.in-Some.is)

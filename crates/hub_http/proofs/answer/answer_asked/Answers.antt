use Rattle.std.proofs.Common.{rules, Err, inr, refl}
use Rattle.hub_http.specs.Question.{with_body}
use Rattle.hub_http.specs.Wording.{asked_as}
use Rattle.hub_http.specs.declared.refusal.Refusal.TheVariants.{BadRequest}
use Rattle.hub_http.proofs.Extents.{reached_at_once, reached_if}
use Rattle.hub_http.proofs.answer.answer_asked.Goals as goal

pub returns-in-Ok-clause-or_fails : goal.returns-in-Ok-clause-or_fails
returns-in-Ok-clause-or_fails g c =
    ((with_body (asked_as c.args.asked.now) c.in-Ok.body, c.answer_body.ensures.answers), search rules)

pub returns-in-Err-Memory-clause-or_fails : goal.returns-in-Err-Memory-clause-or_fails
returns-in-Err-Memory-clause-or_fails g c =
    ((Err BadRequest, inr (refl, (refl, c.stopped_answer.ensures))), search rules)

pub returns-in-Ok-clause-to_end : goal.returns-in-Ok-clause-to_end
returns-in-Ok-clause-to_end g c =
    reached_if c.args.front.now _ _ c.args.asked.now.size c.args.sent c.in-Ok.body c.is_read.result c.in-Ok.ensures.whole
    c.in-Ok.ensures.body c.requires.sized (rw c.max.ensures at c.is_read.ensures.whole) c.is_read.ensures.cut

pub returns-in-Err-Memory-clause-to_end : goal.returns-in-Err-Memory-clause-to_end
returns-in-Err-Memory-clause-to_end g c =
    reached_at_once c.args.front.now _ _ c.args.sent c.is_whole.result (search rules) c.is_whole.ensures

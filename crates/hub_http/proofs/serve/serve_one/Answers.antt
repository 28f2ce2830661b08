use Rattle.std.proofs.Common.{◌≡◌}
use Rattle.hub_http.specs.Answer.{HubReplies}
use Rattle.hub_http.proofs.Serving.{ended_whole, one_asked}
use Rattle.hub_http.proofs.serve.serve_one.Goals as goal

pub returns-in-Ok-write_answer-clause-served : goal.returns-in-Ok-write_answer-clause-served
returns-in-Ok-write_answer-clause-served g c =
    ended_whole (HubReplies g.S.Store c.args.moment c.args.hub.now c.answer_one.new.hub)
    (c.answer_one.new.hub ≡ c.args.hub.now) c.args.hub.now.0 _ _ _ _ c.in-Ok.answered.answer c.as_u16.result
    c.in-Ok.ensures.answered c.in-Ok-write_answer.ensures.bytes c.as_u16.ensures.value

pub returns-in-Ok-write_answer-clause-written : goal.returns-in-Ok-write_answer-clause-written
returns-in-Ok-write_answer-clause-written g c =
    (c.in-Ok.answered.answer, c.in-Ok.ensures.or_fails.0, c.in-Ok-write_answer.ensures.bytes, c.as_u16.ensures.value)

pub returns-in-Ok-write_answer-clause-stepped : goal.returns-in-Ok-write_answer-clause-stepped
returns-in-Ok-write_answer-clause-stepped g c =
    one_asked (HubReplies g.S.Store c.args.moment c.args.hub.now c.answer_one.new.hub)
    (c.answer_one.new.hub ≡ c.args.hub.now) c.args.hub.now.0 c.in-Ok.answered.answer c.in-Ok.ensures.or_fails.0

pub returns-clause-stepped : goal.returns-clause-stepped
returns-clause-stepped g c =
    one_asked (HubReplies g.S.Store c.args.moment c.args.hub.now c.answer_one.new.hub)
    (c.answer_one.new.hub ≡ c.args.hub.now) c.args.hub.now.0 c.in-Ok.answered.answer c.in-Ok.ensures.or_fails.0

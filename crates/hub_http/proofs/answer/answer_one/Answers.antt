use Rattle.std.proofs.Common.{◌≡◌, ◌+◌, Bool, false, Err, inl, refl, subst, arith}
use Rattle.http_messages.specs.Head.{longest_head}
use Rattle.hub_http.specs.Answer.{AnswersOrFails, HubReplies, size_asked}
use Rattle.hub_http.specs.Asked.{asked_by, longest_body}
use Rattle.hub_http.specs.declared.answer.AnswerAfterRead.{AnswerAfterRead}
use Rattle.hub_http.specs.declared.refusal.Refusal.TheVariants.{BadRequest}
use Rattle.hub_http.proofs.Bounds.{asked_short, body_within, both_taken, taken_within}
use Rattle.hub_http.proofs.Extents.{ends_none, ends_with}
use Rattle.hub_http.proofs.Serving.{cut_behind, on_err, serves_none, serves_some}
use Rattle.hub_http.proofs.answer.answer_one.Goals as goal

pub returns-in-Some-clause-answered : goal.returns-in-Some-clause-answered
returns-in-Some-clause-answered g c =
    let found = c.in_ok-head.ensures.head in
    serves_some (HubReplies g.S.Store c.args.moment c.args.hub.now c.answer_head.new.hub)
    (c.answer_head.new.hub ≡ c.args.hub.now) c.args.hub.now.0 _ _ _ c.in-Some.head c.answer_head.result
    (rw c.in-Some.is at found) c.in_ok-head.ensures.limit
    (body_within (size_asked (asked_by c.args.hub.now.0 c.in-Some.head)) _ _ _ c.answer_head.ensures.front) c.answer_head.ensures.answers

pub returns-in-Some-clause-front : goal.returns-in-Some-clause-front
returns-in-Some-clause-front g c =
    let short = asked_short c.args.hub.now.0 c.in-Some.head in
    taken_within _ _ (longest_head + size_asked (asked_by c.args.hub.now.0 c.in-Some.head)) (longest_head + longest_body)
    (omega (arith, short))
    (both_taken _ _ _ longest_head (size_asked (asked_by c.args.hub.now.0 c.in-Some.head)) c.in_ok-head.ensures.limit
    (body_within (size_asked (asked_by c.args.hub.now.0 c.in-Some.head)) _ _ _ c.answer_head.ensures.front))

pub returns-in-Some-clause-cut : goal.returns-in-Some-clause-cut
returns-in-Some-clause-cut g c =
    let found = c.in_ok-head.ensures.head in
    on_err c.answer_head.result
    (cut_behind c.args.hub.now.0 _ _ _ c.in-Some.head (rw c.in-Some.is at found) c.in_ok-head.ensures.limit
    (body_within (size_asked (asked_by c.args.hub.now.0 c.in-Some.head)) _ _ _ c.answer_head.ensures.front))

pub returns-in-None-clause-answered : goal.returns-in-None-clause-answered
returns-in-None-clause-answered g c =
    let found = c.in_ok-head.ensures.head in
    serves_none (HubReplies g.S.Store c.args.moment c.args.hub.now c.args.hub.now)
    (c.args.hub.now ≡ c.args.hub.now) c.args.hub.now.0 _ _ c.refusal_answer.result (rw c.in-None.is at found)
    c.in_ok-head.ensures.limit (inl (refl, c.refusal_answer.ensures))

pub returns-in-Some-clause-or_fails : goal.returns-in-Some-clause-or_fails
returns-in-Some-clause-or_fails g c =
    subst (λ (before : Bool).
    AnswersOrFails (HubReplies g.S.Store c.args.moment c.args.hub.now c.answer_head.new.hub)
    (c.answer_head.new.hub ≡ c.args.hub.now) before (g.R.Source.failed c.answer_head.new.reader) c.answer_head.result)
    c.in_ok-head.ensures.kept c.answer_head.ensures.or_fails

pub returns-in-None-clause-or_fails : goal.returns-in-None-clause-or_fails
returns-in-None-clause-or_fails g c = ((Err BadRequest, inl (refl, c.refusal_answer.ensures)), c.in_ok-head.ensures.kept)

pub returns-in-Some-clause-to_end : goal.returns-in-Some-clause-to_end
returns-in-Some-clause-to_end g c =
    let found = c.in_ok-head.ensures.head in
    ends_with (λ (answered : AnswerAfterRead). answered.read_to_end) _ _ _ c.in-Some.head c.answer_head.result (rw c.in-Some.is at found)
    c.answer_head.ensures.to_end

pub returns-in-None-clause-to_end : goal.returns-in-None-clause-to_end
returns-in-None-clause-to_end g c =
    let found = c.in_ok-head.ensures.head in
    ends_none _ _ false refl (rw c.in-None.is at found)

use Rattle.std.proofs.Common.{◌≡◌, ◌≤◌, Result, Err, inl, refl, sym, subst}
use Rattle.hub_http.specs.Answer.{HubReplies, size_asked}
use Rattle.hub_http.specs.Asked.{Asked, asked_by, longest_body}
use Rattle.hub_http.specs.Wording.{asked_as, asked_or_refused}
use Rattle.hub_http.specs.declared.asked.Asked.{Asked as AskedHere}
use Rattle.hub_http.specs.declared.refusal.Refusal.{Refusal}
use Rattle.hub_http.proofs.Bounds.{asked_short}
use Rattle.hub_http.proofs.Extents.{Sized, asked_sized, reached_at_once}
use Rattle.hub_http.proofs.Serving.{answers_head}
use Rattle.hub_http.proofs.answer.answer_head.Goals as goal

pub answer_asked-requires-clause-short : goal.answer_asked-requires-clause-short
answer_asked-requires-clause-short g c =
    subst (λ (r : Result AskedHere Refusal). size_asked (asked_or_refused r) ≤ longest_body) c.in-Ok.is
    (subst (λ (r : Result Asked Refusal). size_asked r ≤ longest_body) (sym c.check_head.ensures)
    (asked_short c.args.hub.now.0 c.args.head.now))

pub answer_asked-requires-clause-sized : goal.answer_asked-requires-clause-sized
answer_asked-requires-clause-sized g c =
    rw c.body_size-sent.ensures
    (subst (λ (r : Result AskedHere Refusal). Sized c.args.head.now (asked_or_refused r)) c.in-Ok.is
    (subst (λ (r : Result Asked Refusal). Sized c.args.head.now r) (sym c.check_head.ensures)
    (asked_sized c.args.hub.now.0 c.args.head.now)))

pub returns-in-Ok-clause-answers : goal.returns-in-Ok-clause-answers
returns-in-Ok-clause-answers g c =
    answers_head (HubReplies g.S.Store c.args.moment c.args.hub.now c.answer_asked.new.hub)
    (c.answer_asked.new.hub ≡ c.args.hub.now) c.args.hub.now.0 (g.R.Source.remaining c.args.reader.now) c.args.head.now
    (asked_as c.in-Ok.asked) c.rest.result.now c.answer_asked.result
    (subst (λ (r : Result AskedHere Refusal). asked_or_refused r ≡ asked_by c.args.hub.now.0 c.args.head.now) c.in-Ok.is
    c.check_head.ensures) c.rest.ensures c.answer_asked.ensures.answers

pub returns-in-Err-clause-or_fails : goal.returns-in-Err-clause-or_fails
returns-in-Err-clause-or_fails g c = ((Err c.in-Err.refusal, inl (refl, c.refusal_answer.ensures)), refl)

pub returns-in-Err-clause-to_end : goal.returns-in-Err-clause-to_end
returns-in-Err-clause-to_end g c =
    reached_at_once c.args.head.now.rest _ _ _ c.is_whole.result refl
    (rw (c.body_size-sent.ensures, c.rest-in-Err.ensures) at c.is_whole.ensures)

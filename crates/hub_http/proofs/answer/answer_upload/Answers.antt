use Rattle.std.proofs.Common.{rules, ◌≡◌, ℕ, ◌-◌, false, List, ◌++◌, length, Option, Result, Err, inl, inr, refl, subst}
use Rattle.std.specs.Prelude.{IfSome}
use Rattle.edi_envelope.specs.Opened.{opened, Opens}
use Rattle.edi_envelope.specs.declared.fault.OpenFault.{OpenFault}
use Rattle.edi_envelope.specs.declared.interchange.Interchange.{Interchange}
use Rattle.http_messages.specs.Body.{TakesExactly, body_in}
use Rattle.hub_http.specs.Answer.{HubReplies}
use Rattle.hub_http.specs.Wording.{asked_as}
use Rattle.hub_http.specs.Upload.{IsUpload}
use Rattle.hub_http.specs.declared.refusal.Refusal.TheVariants.{BadRequest}
use Rattle.hub_http.proofs.Extents.{reached_at_once, reached_cut, reached_whole}
use Rattle.hub_http.proofs.Uploads.{answers_upload, one_upload}
use Rattle.hub_http.proofs.answer.answer_upload.Goals as goal

pub returns-in-Ok-Some-clause-answers : goal.returns-in-Ok-Some-clause-answers
returns-in-Ok-Some-clause-answers g c =
    answers_upload (HubReplies g.S.Store c.args.moment c.args.hub.now c.ask_opened.new.hub)
    (c.ask_opened.new.hub ≡ c.args.hub.now) (asked_as c.args.asked.now)
    (λ left. body_in c.args.asked.now.size (c.args.front.now ++ left)) _ c.in-Ok-Some.upload c.ask_opened.result c.requires.route
    (subst (λ (u : Option (Result Interchange OpenFault)). IfSome (g.R.Source.remaining c.args.reader.now) (λ left.
    IsUpload u (body_in c.args.asked.now.size (c.args.front.now ++ left)))) c.in-Ok-Some.field-0-is c.in-Ok-Some.ensures.body)
    c.ask_opened.ensures.asked

pub returns-in-Ok-Some-clause-or_fails : goal.returns-in-Ok-Some-clause-or_fails
returns-in-Ok-Some-clause-or_fails g c = (
  one_upload (HubReplies g.S.Store c.args.moment c.args.hub.now c.ask_opened.new.hub)
      (c.ask_opened.new.hub ≡ c.args.hub.now) (asked_as c.args.asked.now) c.in-Ok-Some.upload c.ask_opened.result
      (subst (λ (u : Option (Result Interchange OpenFault)). IfSome u (λ upload. (bytes : List ℕ) × Opens upload (opened bytes)))
      c.in-Ok-Some.field-0-is c.in-Ok-Some.ensures.some) c.ask_opened.ensures.asked,
  search rules,
)

pub returns-in-Ok-Some-clause-stays : goal.returns-in-Ok-Some-clause-stays
returns-in-Ok-Some-clause-stays g c =
    let some =
    subst (λ (u : Option (Result Interchange OpenFault)). IfSome u (λ upload. (bytes : List ℕ) × Opens upload (opened bytes)))
    c.in-Ok-Some.field-0-is c.in-Ok-Some.ensures.some in
    c.ask_opened.ensures.stays some.0 some.1

pub returns-in-Ok-None-clause-or_fails : goal.returns-in-Ok-None-clause-or_fails
returns-in-Ok-None-clause-or_fails g c = ((Err BadRequest, inl (refl, c.refusal_answer.ensures)), search rules)

pub returns-in-Err-Memory-clause-or_fails : goal.returns-in-Err-Memory-clause-or_fails
returns-in-Err-Memory-clause-or_fails g c =
    ((Err BadRequest, inr (refl, (refl, c.stopped_answer.ensures))), search rules)

pub returns-in-Ok-Some-clause-to_end : goal.returns-in-Ok-Some-clause-to_end
returns-in-Ok-Some-clause-to_end g c =
    let whole =
    subst (λ (u : Option (Result Interchange OpenFault)). IfSome u (λ _.
    TakesExactly (g.R.Source.remaining c.args.reader.now) (g.R.Source.remaining c.open_body.new.reader)
    (c.args.asked.now.size - length c.args.front.now))) c.in-Ok-Some.field-0-is c.in-Ok-Some.ensures.whole in
    reached_whole c.args.front.now _ _ c.args.asked.now.size c.args.sent c.is_whole.result whole
    (rw c.max.ensures at c.is_whole.ensures)

pub returns-in-Ok-None-clause-to_end : goal.returns-in-Ok-None-clause-to_end
returns-in-Ok-None-clause-to_end g c =
    reached_cut c.args.front.now _ _ c.args.asked.now.size c.args.sent false refl c.requires.sized
    (subst (λ (u : Option (Result Interchange OpenFault)). IfSome (g.R.Source.remaining c.args.reader.now) (λ left.
    IsUpload u (body_in c.args.asked.now.size (c.args.front.now ++ left)))) c.in-Ok-None.field-0-is c.in-Ok-None.ensures.body)

pub returns-in-Err-Memory-clause-to_end : goal.returns-in-Err-Memory-clause-to_end
returns-in-Err-Memory-clause-to_end g c =
    reached_at_once c.args.front.now _ _ c.args.sent c.is_whole-in-Err-Memory.result (search rules) c.is_whole-in-Err-Memory.ensures

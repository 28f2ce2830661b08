-- Proves which question a connection asks, from its head.
use Rattle.std.proofs.Common.{◌≡◌, ℕ, ◌+◌, List, ◌++◌, Option, Some, None, Result, Ok, Err, Bool, true, false, refl, inl, inr}
use Rattle.std.proofs.Common.{ap, sym, subst, ◌∙◌}
use Rattle.std.specs.Prelude.{IfOk, IfSome, OnErr}
use Rattle.std.specs.Io.KnownBytes.{Appends}
use Rattle.edi_base.specs.Buffer.{AppendsFront}
use Rattle.hub_requests.specs.declared.reply.Reply.{Reply}
use Rattle.hub_parties.specs.Rows.{RegisterRows}
use Rattle.http_messages.specs.Body.{body_in}
use Rattle.http_messages.specs.Head.{Heading, Finds, before, longest_head}
use Rattle.edi_base.specs.Source.{TakesAtMost}
use Rattle.hub_http.specs.Answer.{AnswersQuestion, AnswersWhatever, OneStep, ReadsWithin, AnswersBytes, announced_by}
use Rattle.hub_http.specs.Asked.{Asked, asked_by, is_single}
use Rattle.hub_http.specs.Question.{Question, and_body, question_of, with_body}
use Rattle.hub_http.specs.Serve.{response}
use Rattle.hub_http.proofs.Bounds.{both_taken}
use Rattle.hub_http.proofs.Judging.{passed_first}
use Rattle.hub_http.specs.declared.answer.HttpAnswer.{HttpAnswer}
use Rattle.hub_http.specs.declared.answer.AnswerAfterRead.{AnswerAfterRead}
use Rattle.hub_http.specs.declared.refusal.Refusal.{Refusal}
use Rattle.hub_http.specs.declared.refusal.Refusal.TheVariants.{BadRequest}

-- what holds whatever a call returns holds if it failed
pub on_err : {A E : Type 0} {P : Type 0} (r : Result A E) → P → OnErr r P
on_err (Ok a) p = tt
on_err (Err e) p = p

module _ (register : RegisterRows) where
  -- a read failed before a head was found
  pub cut_before : (old new : Option (List ℕ)) → TakesAtMost old new longest_head
      → IfSome old (λ known. ReadsWithin register known new)
  cut_before None new taken = tt
  cut_before (Some known) new taken = inl taken

  -- a read failed after the head
  pub cut_behind : (old new after : Option (List ℕ)) (head : Heading) → Finds old new (Some head)
      → TakesAtMost old new longest_head
      → TakesAtMost new after (announced_by register (Some head))
      → IfSome old (λ known. ReadsWithin register known after)
  cut_behind None new after head found first more = tt
  cut_behind (Some known) None after head found first more = absurd found
  cut_behind (Some known) (Some left) after head found first more =
      inr (before left head, found, both_taken (Some known) (Some left) after _ _ first more)

module _ (Replies : Question → Reply → Type 0) (Same : Type 0) (register : RegisterRows) where
  -- whoever knows the answer knows the question
  one_step : (passed : Bool) (question : Result Question Refusal) (answer : HttpAnswer)
      → AnswersQuestion Replies Same passed question answer → OneStep Replies Same
  one_step passed (Ok question) answer (inl ends) = inr (question, ends.0, ends.1)
  one_step passed (Err refusal) answer (inl ends) = inl ends.0
  one_step passed question answer (inr stops) = inl stops.1.0

  pub one_asked : (answer : HttpAnswer) → AnswersWhatever Replies Same answer → OneStep Replies Same
  one_asked answer one = one_step true one.0 answer one.1

  -- without a head
  pub serves_none : (old new : Option (List ℕ)) (answer : HttpAnswer) → Finds old new None → TakesAtMost old new longest_head
      → AnswersQuestion Replies Same false (Err BadRequest) answer
      → IfSome old (λ known. AnswersBytes Replies Same register known new answer)
  serves_none None new answer found taken answers = tt
  serves_none (Some known) None answer found taken answers = absurd found
  serves_none (Some known) (Some left) answer found taken answers = record {
    question = Err BadRequest;
    asks = record { head = None; head_is = found; question_is = refl };
    answers = answers;
    taken = taken;
  }

  -- with a head, and the bytes after it
  serves_head : (old new after : Option (List ℕ)) (head : Heading) (answer : HttpAnswer) → Finds old new (Some head)
      → TakesAtMost old after (longest_head + announced_by register (Some head))
      → IfSome new (λ left. AnswersQuestion Replies Same (is_single head) (question_of register (Some (before left head))) answer)
      → IfSome old (λ known. AnswersBytes Replies Same register known after answer)
  serves_head None new after head answer found taken answers = tt
  serves_head (Some known) None after head answer found taken answers = absurd found
  serves_head (Some known) (Some left) after head answer found taken answers = record {
    question = question_of register (Some (before left head));
    asks = record { head = Some (before left head); head_is = found; question_is = refl };
    answers = answers;
    taken = taken;
  }

  pub serves_some : {E : Type 0} (old new after : Option (List ℕ)) (head : Heading) (r : Result AnswerAfterRead E)
      → Finds old new (Some head)
      → TakesAtMost old new longest_head
      → TakesAtMost new after (announced_by register (Some head))
      → IfOk r (λ answered. IfSome new (λ left.
      AnswersQuestion Replies Same (is_single head) (question_of register (Some (before left head))) answered.answer))
      → IfOk r (λ answered. IfSome old (λ known. AnswersBytes Replies Same register known after answered.answer))
  serves_some old new after head (Ok answered) found first more answers =
      serves_head old new after head answered.answer found (both_taken old new after _ _ first more) answers
  serves_some old new after head (Err e) found first more answers = tt

  -- the answer to a head with the bytes after it is the answer to the bytes of the connection
  pub answers_head : {E : Type 0} (known : Option (List ℕ)) (head : Heading) (asked : Asked) (rest : List ℕ)
      (r : Result AnswerAfterRead E)
      → Ok asked ≡ asked_by register head
      → rest ≡ head.rest
      → IfOk r (λ answered. IfSome known (λ left.
      AnswersQuestion Replies Same true (with_body asked (body_in asked.size (rest ++ left))) answered.answer))
      → IfOk r (λ answered. IfSome known (λ left.
      AnswersQuestion Replies Same (is_single head) (question_of register (Some (before left head))) answered.answer))
  answers_head known head asked rest (Err e) asks same answers = tt
  answers_head None head asked rest (Ok answered) asks same answers = tt
  answers_head (Some left) head asked rest (Ok answered) asks same answers =
      let is : with_body asked (body_in asked.size (rest ++ left)) ≡ question_of register (Some (before left head)) =
      ap (λ (more : List ℕ). and_body (more ++ left) (Ok asked)) same ∙ ap (and_body (head.rest ++ left)) asks in
      subst (λ (b : Bool). AnswersQuestion Replies Same b (question_of register (Some (before left head))) answered.answer)
      (sym (passed_first register head asked asks))
      (subst (λ (q : Result Question Refusal). AnswersQuestion Replies Same true q answered.answer) is answers)

  -- a prefix of the response was written
  pub ended_cut : (known after was is : Option (List ℕ)) (answer : HttpAnswer)
      → IfSome known (λ bytes. AnswersBytes Replies Same register bytes after answer)
      → AppendsFront was is (response answer)
      → IfSome known (λ bytes. (a : HttpAnswer) × AnswersBytes Replies Same register bytes after a × AppendsFront was is (response a))
  ended_cut None after was is answer serves front = tt
  ended_cut (Some bytes) after was is answer serves front = (answer, serves, front)

  -- the whole response was written
  pub ended_whole : (known after was is : Option (List ℕ)) (answer : HttpAnswer) (status : ℕ)
      → IfSome known (λ bytes. AnswersBytes Replies Same register bytes after answer)
      → Appends was is (response answer)
      → status ≡ answer.status
      → IfSome known (λ bytes. (a : HttpAnswer) × AnswersBytes Replies Same register bytes after a × Appends was is (response a)
      × (status ≡ a.status))
  ended_whole None after was is answer status serves whole e = tt
  ended_whole (Some bytes) after was is answer status serves whole e = (answer, serves, whole, e)

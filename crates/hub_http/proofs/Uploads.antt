-- Proves that an upload opened while it is read is the upload that its body opens as.
use Rattle.std.proofs.Common.{◌≡◌, ◌≢◌, ◌⊎◌, ℕ, ◌+◌, ◌-◌, ◌<◌, ◌≤◌, Bool, true, List, [], ◌++◌, length, take, Option, Some, None}
use Rattle.std.proofs.Common.{Result, Ok, Err, inl, inr, refl, sym, ap, subst, ◌∙◌, arith}
use Rattle.std.specs.Prelude.{IfSome}
use Rattle.std.specs.Io.KnownBytes.{IsAtEnd}
use Rattle.std.proofs.lemmas.Bool.{le-ltb, lt-ltb}
use Rattle.std.proofs.lemmas.List.{length-append}
use Rattle.edi_base.specs.Source.{TakesAtMost}
use Rattle.edi_tokens.specs.Lender.{AtEnd, Came, Fed, HasCause, HasReadNothing, ReadsAway, TakesOf, room_of}
use Rattle.edi_tokens.specs.declared.lender.Lender.{Lender}
use Rattle.edi_segments.specs.declared.fault.TokenFault.{TokenFault}
use Rattle.edi_segments.specs.declared.fault.TokenFault.TheVariants as token
use Rattle.edi_tokens.proofs.Lending.{takes_then}
use Rattle.edi_envelope.specs.declared.fault.OpenFault.{OpenFault}
use Rattle.edi_envelope.specs.declared.fault.OpenFault.TheVariants.{Token, Envelope}
use Rattle.edi_envelope.specs.declared.interchange.Interchange.{Interchange}
use Rattle.edi_envelope.specs.Gathered.{OpenFaultHasCause}
use Rattle.edi_envelope.specs.Opened.{opened, Opens}
use Rattle.hub_requests.specs.declared.reply.Reply.{Reply}
use Rattle.http_messages.specs.Body.{TakesExactly, body_in}
use Rattle.hub_http.specs.Answer.{AnswersQuestion, AnswersWhatever, RepliesTo}
use Rattle.hub_http.specs.Asked.{Asked}
use Rattle.hub_http.specs.Question.{Question, of_asker, request_for, uploading, with_body}
use Rattle.hub_http.specs.Upload.{IsUpload}
use Rattle.hub_http.specs.declared.answer.HttpAnswer.{HttpAnswer}
use Rattle.hub_http.specs.declared.refusal.Refusal.{Refusal}
use Rattle.hub_http.specs.declared.refusal.Refusal.TheVariants.{BadRequest}
use Rattle.hub_http.specs.declared.route.Route.{Route}
use Rattle.hub_http.specs.declared.route.Route.TheVariants.{Interchanges}

-- if no read failed, the reader's flag stays
cause_kept : (fault : TokenFault) (old new : Bool) → fault ≢ token.Read → HasCause fault old new → new ≡ old
cause_kept token.TooLong old new read cause = cause
cause_kept token.ServiceString old new read cause = cause
cause_kept token.Byte old new read cause = cause
cause_kept token.Cut old new read cause = cause
cause_kept token.Tag old new read cause = cause
cause_kept token.LongSegment old new read cause = cause
cause_kept token.Read old new read cause = absurd (read refl)
cause_kept token.Memory old new read cause = absurd cause

pub flag_kept : (upload : Result Interchange OpenFault) (old new : Bool) → upload ≢ Err (Token token.Read)
    → OpenFaultHasCause upload old new → new ≡ old
flag_kept (Ok interchange) old new read flag = flag
flag_kept (Err (Token fault)) old new read flag = cause_kept fault old new (λ is. read (ap (λ f. Err (Token f)) is)) flag
flag_kept (Err (Envelope fault)) old new read flag = flag

-- bytes were taken, and not more than there is room for
pub taken_of : (a b : Option (List ℕ)) (room left limit : ℕ) → room ≡ limit → TakesOf a b room left → TakesAtMost a b limit
taken_of a b room left limit is takes =
    let counted = takes.counted in
    record { front = takes.front; taken = takes.consumed; within = omega (arith, counted, is) }

-- all announced bytes arrived, or the body breaks off
module _ (size room missing : ℕ) (front : List ℕ) (is : room ≡ size - length front) where
  pub whole_body : (known after : Option (List ℕ)) (upload : Result Interchange OpenFault)
      → TakesOf known after room missing
      → missing ≡ 0
      → ((left : List ℕ) → known ≡ Some left → Opens upload (opened (take size (front ++ left))))
      → IfSome known (λ left. IsUpload (Some upload) (body_in size (front ++ left)))
  whole_body None after upload takes all opens = tt
  whole_body (Some left) None upload takes all opens = absurd takes.consumed
  whole_body (Some left) (Some rest) upload takes all opens =
      let counted = takes.counted in
      let long : length left ≡ length takes.front + length rest = ap length takes.consumed ∙ length-append takes.front rest in
      let fits : size ≤ length (front ++ left) = omega (arith, length-append front left, long, counted, all, is) in
      (take size (front ++ left), rw (le-ltb (length (front ++ left)) size fits) refl, opens left refl)

  pub cut_body : (known after : Option (List ℕ)) → TakesOf known after room missing → 0 < missing
      → IsAtEnd after ⊎ (missing ≡ 0)
      → IfSome known (λ left. IsUpload None (body_in size (front ++ left)))
  cut_body None after takes some end = tt
  cut_body (Some left) None takes some end = absurd takes.consumed
  cut_body (Some left) (Some rest) takes some (inr none) = absurd (omega (arith, some, none))
  cut_body (Some left) (Some rest) takes some (inl end) =
      let counted = takes.counted in
      let long : length left ≡ length takes.front + length rest = ap length takes.consumed ∙ length-append takes.front rest in
      let short : length (front ++ left) < size =
      omega (arith, length-append front left, long, ap length end, counted, some, is) in
      rw (lt-ltb (length (front ++ left)) size short) refl

-- the bytes that the lender has read, and those that were then read and dropped
away_takes : {E : Type 0} (before after : Option (List ℕ)) (l : Lender) (result : Result ℕ E) → ReadsAway before after l result
    → (left : ℕ) × TakesOf before after (room_of l) left
away_takes before after l (Ok missing) away = (missing, away.0)
away_takes before after l (Err e) away = away

module _ {E : Type 0} (before between after : Option (List ℕ)) (old new : Lender) (size : ℕ) (front : List ℕ) (result : Result ℕ E)
    (begun : HasReadNothing old (size - length front)) (first : TakesOf before between (room_of old) (room_of new))
    (away : ReadsAway between after new result) where
  pub read_at_most : TakesAtMost before after (size - length front)
  read_at_most =
      let then = away_takes between after new result away in
      taken_of before after (room_of old) then.0 (size - length front) begun.room_is
      (takes_then before between after (room_of old) (room_of new) then.0 first then.1)

  away_so : (missing : ℕ) → result ≡ Ok missing → ReadsAway {E = E} between after new (Ok missing)
  away_so missing is = subst (λ (r : Result ℕ E). ReadsAway between after new r) is away

  all_takes : (missing : ℕ) → result ≡ Ok missing → TakesOf before after (room_of old) missing
  all_takes missing is = takes_then before between after (room_of old) (room_of new) missing first (away_so missing is).0

  -- nothing is missing
  pub exactly_read : result ≡ Ok 0 → TakesExactly before after (size - length front)
  exactly_read is =
      let takes = all_takes 0 is in
      let counted = takes.counted in
      record { bytes = takes.front; consumed = takes.consumed; counted = omega (arith, counted, begun.room_is) }

  pub whole_read : (upload : Result Interchange OpenFault) → result ≡ Ok 0
      → ((all : List ℕ) → Fed before all [] old → Opens upload (opened all))
      → ((left : List ℕ) → Fed (Some left) (take size (front ++ left)) [] old)
      → IfSome before (λ left. IsUpload (Some upload) (body_in size (front ++ left)))
  whole_read upload is opens fed =
      whole_body size (room_of old) 0 front begun.room_is before after upload (all_takes 0 is) refl
      (λ left known. opens (take size (front ++ left))
      (subst (λ (o : Option (List ℕ)). Fed o (take size (front ++ left)) [] old) (sym known) (fed left)))

  pub cut_read : (missing : ℕ) → result ≡ Ok missing → 0 < missing → (AtEnd before old → AtEnd between new)
      → IfSome before (λ left. IsUpload None (body_in size (front ++ left)))
  cut_read missing is some ends =
      cut_body size (room_of old) missing front begun.room_is before after (all_takes missing is) some
      ((away_so missing is).1 (ends (begun.ends before)))

pub opens_some : (size : ℕ) (front : List ℕ) (lender : Lender) (upload : Result Interchange OpenFault)
    → ((left : List ℕ) → Fed (Some left) (take size (front ++ left)) [] lender)
    → (Came [] lender → (all : List ℕ) × Opens upload (opened all))
    → (bytes : List ℕ) × Opens upload (opened bytes)
opens_some size front lender upload fed some =
    some (record { known = Some []; all = take size (front ++ []); fed = fed [] })

module _ (Replies : Question → Reply → Type 0) (Same : Type 0) (asked : Asked) where
  asks_upload : (bytes : List ℕ) → asked.route ≡ Interchanges → with_body asked (Some bytes) ≡ Ok (uploading asked bytes)
  asks_upload bytes route = ap (λ (r : Route). of_asker asked (request_for r asked.part asked.number bytes)) route

  -- the answer to an upload is the answer to what its body asks
  pub answers_upload : (body : List ℕ → Option (List ℕ)) (known : Option (List ℕ)) (upload : Result Interchange OpenFault)
      (answer : HttpAnswer) → asked.route ≡ Interchanges
      → IfSome known (λ left. IsUpload (Some upload) (body left))
      → ((bytes : List ℕ) → Opens upload (opened bytes) → RepliesTo Replies Same (Ok (uploading asked bytes)) answer)
      → IfSome known (λ left. AnswersQuestion Replies Same true (with_body asked (body left)) answer)
  answers_upload body None upload answer route is ends = tt
  answers_upload body (Some left) upload answer route is ends =
      let same : with_body asked (body left) ≡ Ok (uploading asked is.0) = ap (with_body asked) is.1 ∙ asks_upload is.0 route in
      subst (λ (q : Result Question Refusal). AnswersQuestion Replies Same true q answer) (sym same) (inl (ends is.0 is.2))

  pub answers_cut : (body : List ℕ → Option (List ℕ)) (known : Option (List ℕ)) (answer : HttpAnswer)
      → IfSome known (λ left. IsUpload None (body left))
      → RepliesTo Replies Same (Err BadRequest) answer
      → IfSome known (λ left. AnswersQuestion Replies Same true (with_body asked (body left)) answer)
  answers_cut body None answer is ends = tt
  answers_cut body (Some left) answer is ends =
      subst (λ (q : Result Question Refusal). AnswersQuestion Replies Same true q answer) (sym (ap (with_body asked) is)) (inl ends)

  pub one_upload : (upload : Result Interchange OpenFault) (answer : HttpAnswer)
      → ((bytes : List ℕ) × Opens upload (opened bytes))
      → ((bytes : List ℕ) → Opens upload (opened bytes) → RepliesTo Replies Same (Ok (uploading asked bytes)) answer)
      → AnswersWhatever Replies Same answer
  one_upload upload answer some ends = (Ok (uploading asked some.0), inl (ends some.0 some.1))

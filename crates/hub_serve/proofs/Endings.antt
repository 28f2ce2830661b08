-- Proves how one connection ends.
use Rattle.std.proofs.Common.{◌≡◌, ℕ, ◌+◌, Bool, true, false, List, [], ◌∷◌, Option, Some, None, Result, Ok, Err, refl, ◌∙◌}
use Rattle.std.proofs.Common.{inl, inr}
use Rattle.std.specs.Prelude.{◌≢◌, IfOk}
use Rattle.edi_base.specs.Source.{TakesAtMost}
use Rattle.http_messages.specs.Head.{longest_head}
use Rattle.hub_http.specs.Answer.{OneStep, AnswersBytes, announced_by, passes}
use Rattle.hub_http.specs.Answer as http
use Rattle.hub_http.specs.Extent.{TellsEnd}
use Rattle.hub_http.specs.Question.{Question}
use Rattle.hub_http.specs.Question as asked
use Rattle.hub_http.specs.Serve.{Ended}
use Rattle.hub_http.specs.declared.serve.IoFault.{IoFault}
use Rattle.hub_http.specs.declared.serve.IoFault.TheVariants.{Read, Write}
use Rattle.hub_http.specs.declared.serve.Served.{Served}
use Rattle.hub_requests.specs.declared.reply.Reply.{Reply}
use Rattle.hub_requests.specs.declared.request.Input.{Input}
use Rattle.hub_http.specs.HubCore.Steps.{input_of}
use Rattle.hub_parties.specs.Rows.{RegisterRows}
use Rattle.hub_serve.specs.Connections.{Adds, Closed, IsNew, KnownConnections, TakesFirst}
use Rattle.hub_serve.specs.Line.{ending_of}
use Rattle.hub_serve.specs.One.{DidAsked, ServesOne}
use Rattle.hub_serve.specs.Serve.{Exchange, AskedAt, Connection, FailedSo, IsAsked, IsServed, IsTaken}
use Rattle.hub_serve.specs.declared.line.Ending.TheVariants.{Gone}
use Rattle.hub_serve.proofs.Passing.{adds_none, takes_none}

-- a fault is reported exactly if its flag was raised
pub failed_so : (served : Result Served IoFault) (closed : Closed) (read write : Bool) → read ≡ false → write ≡ false
    → (served ≡ Err Read → closed.read_failed ≡ true)
    → (served ≢ Err Read → closed.read_failed ≡ read)
    → (served ≡ Err Write → closed.write_failed ≡ true)
    → (served ≢ Err Write → closed.write_failed ≡ write)
    → FailedSo served closed
failed_so (Ok served) closed read write r w raised kept cut same =
    (kept (λ e. cc) ∙ r, same (λ e. cc) ∙ w)
failed_so (Err Read) closed read write r w raised kept cut same = (raised refl, same (λ e. cc) ∙ w)
failed_so (Err Write) closed read write r w raised kept cut same = (kept (λ e. cc) ∙ r, cut refl)

-- a client that disconnected before its connection was taken
pub gone : {Does : Input → Reply → Type 0} {Same : Type 0} {register : RegisterRows} {old new : KnownConnections}
    → TakesFirst old.coming new.coming (None ∷ [])
    → new.closed ≡ old.closed
    → new.moments ≡ old.moments
    → Same
    → ServesOne Does Same register old new Gone
gone {old = old} {new = new} clients closed moments same = record {
  one = record { bytes = None; moment = None; asked = None; closed = None; ending = Gone };
  ends = refl;
  passes = record {
    clients = clients;
    moments = takes_none old.moments new.moments moments;
    closed = adds_none old.closed new.closed closed;
  };
  is = record { moment = refl; asked = refl; closed = refl };
  did = same;
}

module _ (Does : Input → Reply → Type 0) (Same : Type 0) (register : RegisterRows) (moment : ℕ) where
  -- a question was asked at this moment
  abbrev pub AsksAt : Question → Reply → Type 0
  AsksAt question reply = Does (input_of moment question.gln question.key question.request) reply

  -- something was asked, or nothing was, if no more is known
  asked_once : OneStep AsksAt Same → (asked : Option Exchange) × AskedAt moment asked × DidAsked Does Same asked
  asked_once (inl same) = (None, tt, same)
  asked_once (inr step) = (Some (record { moment = moment; question = step.0; reply = step.1 }), refl, step.2)

  -- what was asked, from the question of the bytes
  by_question : (bytes : List ℕ) (left : Option (List ℕ)) (answer : _) (question : _) (asks : asked.AsksQuestion register bytes question)
      → http.AnswersQuestion AsksAt Same (passes asks.head) question answer
      → TakesAtMost (Some bytes) left (longest_head + announced_by register asks.head)
      → (asked : Option Exchange) × AskedAt moment asked × AnswersBytes (IsAsked asked) (asked ≡ None) register bytes left answer
      × DidAsked Does Same asked
  by_question bytes left answer (Ok question) asks (inl ends) taken = (
    Some (record { moment = moment; question = question; reply = ends.0 }),
    refl,
    record { question = Ok question; asks = asks; answers = inl (ends.0, (refl, refl), ends.2); taken = taken },
    ends.1,
  )
  by_question bytes left answer (Ok question) asks (inr stops) taken =
      (None, tt, record { question = Ok question; asks = asks; answers = inr (stops.0, (refl, stops.1.1)); taken = taken }, stops.1.0)
  by_question bytes left answer (Err refusal) asks (inl ends) taken =
      (None, tt, record { question = Err refusal; asks = asks; answers = inl (refl, ends.1); taken = taken }, ends.0)
  by_question bytes left answer (Err refusal) asks (inr stops) taken =
      (None, tt, record { question = Err refusal; asks = asks; answers = inr (stops.0, (refl, stops.1.1)); taken = taken }, stops.1.0)

  -- what was asked in a connection with this result
  asked_so : (bytes left was is : Option (List ℕ)) (served : Result Served IoFault)
      → Ended AsksAt Same register bytes left was is served
      → OneStep AsksAt Same
      → (asked : Option Exchange) × AskedAt moment asked
      × Ended (IsAsked asked) (asked ≡ None) register bytes left was is served
      × DidAsked Does Same asked
  asked_so None left was is (Ok served) ended step = let once = asked_once step in (once.0, once.1, tt, once.2)
  asked_so (Some bytes) left was is (Ok served) ended step =
      let by = by_question bytes left ended.0 ended.1.question ended.1.asks ended.1.answers ended.1.taken in
      (by.0, by.1, (ended.0, by.2, ended.2, ended.3), by.3)
  asked_so bytes left was is (Err Read) ended step = (None, tt, (refl, ended.1), ended.0)
  asked_so None left was is (Err Write) ended step = let once = asked_once step in (once.0, once.1, tt, once.2)
  asked_so (Some bytes) left was is (Err Write) ended step =
      let by = by_question bytes left ended.0 ended.1.question ended.1.asks ended.1.answers ended.1.taken in
      (by.0, by.1, (ended.0, by.2, ended.2), by.3)

  abbrev so_ended : Option (List ℕ) → Option Exchange → Closed → Result Served IoFault → Connection
  so_ended bytes asked closed served = record {
    bytes = bytes;
    moment = Some moment;
    asked = asked;
    closed = Some closed;
    ending = ending_of served;
  }

  is_served : (bytes : Option (List ℕ)) (asked : Option Exchange) (closed : Closed) (served : Result Served IoFault)
      → IsTaken register (so_ended bytes asked closed served) served
      → IsServed register (so_ended bytes asked closed served)
  is_served bytes asked closed (Ok served) taken = taken
  is_served bytes asked closed (Err Read) taken = taken
  is_served bytes asked closed (Err Write) taken = taken

-- a connection that was taken
pub taken : {Does : Input → Reply → Type 0} {Same : Type 0} {register : RegisterRows} {old new : KnownConnections}
    {was : Option (List ℕ)} {read write : Bool} (moment : ℕ) (bytes : Option (List ℕ)) (closed : Closed)
    (served : Result Served IoFault)
    → TakesFirst old.coming new.coming (bytes ∷ [])
    → TakesFirst old.moments new.moments (moment ∷ [])
    → Adds old.closed new.closed (closed ∷ [])
    → IsNew was read write
    → FailedSo served closed
    → closed.ending ≡ ending_of served
    → Ended (AsksAt Does Same register moment) Same register bytes closed.left was closed.sent served
    → IfOk served (λ done. TellsEnd bytes closed.left done.read_to_end)
    → OneStep (AsksAt Does Same register moment) Same
    → ServesOne Does Same register old new (ending_of served)
taken {Does = Does} {Same = Same} {register = register} {was = was} moment bytes closed served clients moments adds begun failed told
    ended to_end step =
    let by = asked_so Does Same register moment bytes closed.left was closed.sent served ended step in record {
      one = so_ended Does Same register moment bytes by.0 closed served;
      ends = refl;
      passes = record { clients = clients; moments = moments; closed = adds };
      is =
          is_served Does Same register moment bytes by.0 closed served (record {
            moment = moment;
            moment_is = refl;
            asked_then = by.1;
            closed = closed;
            closed_is = refl;
            failed_so = failed;
            told_so = told;
            begun = was;
            nothing_sent = begun.nothing_sent;
            ended = by.2;
            to_end = to_end;
          });
      did = by.3;
    }

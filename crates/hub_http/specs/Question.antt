-- Defines what the bytes of a connection ask of the hub, and by which caller; or why they are refused.
use Rattle.std.specs.Prelude.{◌≡◌, ℕ, List, Option, Some, None, Result, Ok, Err}
use Rattle.gs1_ids.specs.Gln.{gln_of}
use Rattle.hub_parties.specs.Rows.{RegisterRows}
use Rattle.hub_core.specs.HubRules.declared.cancel.Cancel.{Cancel as Cancellation}
use Rattle.hub_core.specs.HubTexts.Cancel.{cancel_of}
use Rattle.hub_requests.specs.declared.request.Request.{Request}
use Rattle.hub_requests.specs.declared.request.Request.TheVariants as asks
use Rattle.http_messages.specs.Body.{body_in}
use Rattle.http_messages.specs.Head.{Heading, HeadIs}
use Rattle.hub_http.specs.Asked.{Asked, asked_by}
use Rattle.hub_http.specs.declared.refusal.Refusal.{Refusal}
use Rattle.hub_http.specs.declared.refusal.Refusal.TheVariants.{BadRequest, Unknown}
use Rattle.hub_http.specs.declared.route.Route.{Route}
use Rattle.hub_http.specs.declared.route.Route.TheVariants.{Interchanges, MailAfter, MailItem, MailTaken}
use Rattle.hub_http.specs.declared.route.Route.TheVariants.{Status, StatusOf, Cancellations}

-- the cancellation in a body
abbrev pub cancelled : Option Cancellation → Result Request Refusal
cancelled (Some cancel) = Ok (asks.Cancel cancel)
cancelled None = Err BadRequest

-- the status of a supplier; a text that is not a GLN names none
abbrev pub supplied : Option (List ℕ) → Result Request Refusal
supplied (Some supplier) = Ok (asks.StatusOf supplier)
supplied None = Err Unknown

-- the request on a route, with the part of the path, its number and the body
abbrev pub request_for : Route → List ℕ → ℕ → List ℕ → Result Request Refusal
request_for Interchanges part number body = Ok (asks.Upload body)
request_for MailAfter part number body = Ok (asks.MailAfter number)
request_for MailItem part number body = Ok (asks.MailItem number)
request_for MailTaken part number body = Ok (asks.MailTaken number)
request_for Status part number body = Ok asks.Status
request_for StatusOf part number body = supplied (gln_of part)
request_for Cancellations part number body = cancelled (cancel_of body)

-- who calls with which key, and what is asked
pub record Question : Type 0 where
  pub gln : List ℕ
  pub key : List ℕ
  pub request : Request

abbrev pub question_as : Asked → Request → Question
question_as asked request = record { gln = asked.gln; key = asked.key; request = request }

abbrev pub of_asker : Asked → Result Request Refusal → Result Question Refusal
of_asker asked (Ok request) = Ok (question_as asked request)
of_asker asked (Err refusal) = Err refusal

-- an upload of these bytes
abbrev pub uploading : Asked → List ℕ → Question
uploading asked bytes = question_as asked (asks.Upload bytes)

-- the request with the body; a body that breaks off is refused
abbrev pub request_with : Asked → Option (List ℕ) → Result Request Refusal
request_with asked (Some body) = request_for asked.route asked.part asked.number body
request_with asked None = Err BadRequest

abbrev pub with_body : Asked → Option (List ℕ) → Result Question Refusal
with_body asked body = of_asker asked (request_with asked body)

abbrev pub and_body : List ℕ → Result Asked Refusal → Result Question Refusal
and_body rest (Ok asked) = with_body asked (body_in asked.size rest)
and_body rest (Err refusal) = Err refusal

-- what a connection asks, by the head at the start of its bytes
abbrev pub question_of : RegisterRows → Option Heading → Result Question Refusal
question_of register None = Err BadRequest
question_of register (Some head) = and_body head.rest (asked_by register head)

-- What the bytes of a connection ask of the hub, or why they are refused. There is exactly one such answer, because
-- there is at most one head.
pub record AsksQuestion (register : RegisterRows) (bytes : List ℕ) (question : Result Question Refusal) : Type 0 where
  pub head : Option Heading
  pub head_is : HeadIs bytes head
  pub question_is : question ≡ question_of register head

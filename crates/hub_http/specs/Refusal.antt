-- Defines the answer if nothing is asked of the hub (status codes of RFC 9110, section 15).
use Rattle.std.specs.Prelude.{ℕ, List, codes}
use Rattle.hub_http.specs.declared.refusal.Refusal.{Refusal}
use Rattle.hub_http.specs.declared.refusal.Refusal.TheVariants.{BadRequest, Unknown, Method, Denied, Length, TooLarge}

abbrev pub status_of : Refusal → ℕ
status_of BadRequest = 400
status_of Unknown = 404
status_of Method = 405
status_of Denied = 403
status_of Length = 411
status_of TooLarge = 413

abbrev pub text_of : Refusal → List ℕ
text_of BadRequest = codes "bad request\n"
text_of Unknown = codes "unknown\n"
text_of Method = codes "method\n"
text_of Denied = codes "denied\n"
text_of Length = codes "length\n"
text_of TooLarge = codes "too large\n"

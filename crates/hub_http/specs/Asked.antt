-- Defines what the head of a request asks for, and who calls; or why it is refused. The checks come in this order: a
-- key or a length that occurs twice, the path, the method, the caller, the length of the body.
use Rattle.std.specs.Prelude.{ℕ, Bool, ◌&&◌, ◌==◌, not, nat_lt, if◌then◌else◌, List, [], ◌∷◌, length}
use Rattle.std.specs.Prelude.{codes, Option, Some, None, Result, Ok, Err}
use Rattle.std.specs.List.{list_any}
use Rattle.std.specs.Str.{bytes_eq}
use Rattle.edi_base.specs.Limits.{are_digits, number_of}
use Rattle.edi_segments.specs.Spelling.{text_limit}
use Rattle.hub_parties.specs.Rows.{RegisterRows, role_of}
use Rattle.hub_parties.specs.declared.role.Role.{Role}
use Rattle.http_messages.specs.Fields.{values_of}
use Rattle.http_messages.specs.Head.{Heading, longest_head}
use Rattle.hub_http.specs.Parts.{first, second}
use Rattle.hub_http.specs.Paths.{route_at}
use Rattle.hub_http.specs.Route.{is_post, may_ask, method_of, number_at}
use Rattle.hub_http.specs.declared.refusal.Refusal.{Refusal}
use Rattle.hub_http.specs.declared.refusal.Refusal.TheVariants.{BadRequest, Unknown, Method, Denied, Length, TooLarge}
use Rattle.hub_http.specs.declared.route.Route.{Route}

-- the names of the fields that are used
abbrev pub key_field : List ℕ
key_field = codes "X-Hub-Key"

abbrev pub length_field : List ℕ
length_field = codes "Content-Length"

abbrev pub encoding_field : List ℕ
encoding_field = codes "Transfer-Encoding"

abbrev pub at_most_once : List (List ℕ) → Bool
at_most_once values = nat_lt (length values) 2

-- the key and the length each occur at most once
abbrev pub is_single : Heading → Bool
is_single head =
    at_most_once (values_of key_field head.fields) && at_most_once (values_of length_field head.fields)

-- a target with a query
abbrev pub has_query : List ℕ → Bool
has_query target = list_any (λ byte. byte == 0x3F) target

-- the route of a target, and the parts of its path
abbrev pub route_in : List ℕ → Option (Route × List (List ℕ))
route_in target = if has_query target then None else route_at target

-- the greatest number of bytes of a body: as many as the longest upload
abbrev pub longest_body : ℕ
longest_body = text_limit

-- the length of a body, from the value of its field (RFC 9110, section 8.6); there are at most as many digits as fit
-- into a head
abbrev pub size_in : List ℕ → Result ℕ Refusal
size_in value =
    if not (are_digits 1 longest_head value) then Err BadRequest
    else if nat_lt longest_body (number_of value) then Err TooLarge
    else Ok (number_of value)

-- the length of a body, from the values of all length fields
abbrev pub announced_length : List (List ℕ) → Result ℕ Refusal
announced_length [] = Err Length
announced_length (value ∷ []) = size_in value
announced_length (value ∷ other ∷ values) = Err BadRequest

-- the length of a POST's body, which does not come in pieces
abbrev pub posted_length : List (List ℕ × List ℕ) → Result ℕ Refusal
posted_length fields =
    if length (values_of encoding_field fields) == 0 then announced_length (values_of length_field fields) else Err Length

-- no other body is read
abbrev pub size_of : Route → List (List ℕ × List ℕ) → Result ℕ Refusal
size_of route fields = if is_post route then posted_length fields else Ok 0

-- what is asked for, by which caller with which key, and how long the body is
pub record Asked : Type 0 where
  pub route : Route
  pub part : List ℕ
  pub number : ℕ
  pub gln : List ℕ
  pub key : List ℕ
  pub size : ℕ

abbrev pub with_size : Route → List ℕ → List ℕ → ℕ → List ℕ → Result ℕ Refusal → Result Asked Refusal
with_size route gln part number key (Ok size) =
    Ok (record { route = route; part = part; number = number; gln = gln; key = key; size = size })
with_size route gln part number key (Err refusal) = Err refusal

-- for a caller with this role
abbrev pub by_role : Heading → Route → List ℕ → List ℕ → ℕ → List ℕ → Option Role → Result Asked Refusal
by_role head route gln part number key None = Err Denied
by_role head route gln part number key (Some role) =
    if may_ask role route then with_size route gln part number key (size_of route head.fields) else Err Denied

-- for the party that comes first in the path
abbrev pub by_party : RegisterRows → Heading → Route → List ℕ → List ℕ → ℕ → List ℕ → Result Asked Refusal
by_party register head route party part number key =
    by_role head route party part number key (role_of register party key)

-- with the only key of the head
abbrev pub by_keys : RegisterRows → Heading → Route → List ℕ → List ℕ → ℕ → List (List ℕ) → Result Asked Refusal
by_keys register head route party part number [] = Err Denied
by_keys register head route party part number (key ∷ []) = by_party register head route party part number key
by_keys register head route party part number (key ∷ other ∷ keys) = Err Denied

-- by the number in the path, if it is one
abbrev pub by_number : RegisterRows → Heading → Route → List ℕ → List ℕ → Option ℕ → Result Asked Refusal
by_number register head route party part None = Err Unknown
by_number register head route party part (Some number) =
    if not (bytes_eq head.method (method_of route)) then Err Method
    else by_keys register head route party part number (values_of key_field head.fields)

abbrev pub by_route : RegisterRows → Heading → Route → List ℕ → List ℕ → Result Asked Refusal
by_route register head route party part = by_number register head route party part (number_at route part)

abbrev pub at_route : RegisterRows → Heading → Option (Route × List (List ℕ)) → Result Asked Refusal
at_route register head None = Err Unknown
at_route register head (Some (route, parts)) = by_route register head route (first parts) (second parts)

-- what a head asks for
abbrev pub asked_by : RegisterRows → Heading → Result Asked Refusal
asked_by register head =
    if not (is_single head) then Err BadRequest else at_route register head (route_in head.target)

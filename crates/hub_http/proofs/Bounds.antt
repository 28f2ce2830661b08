-- Proves how much is read of a connection.
use Rattle.std.proofs.Common.{◌≡◌, ℕ, ◌+◌, ◌-◌, ◌≤◌, Bool, true, false, List, [], ◌∷◌, Option, Some, None, Result, Ok, Err}
use Rattle.std.proofs.Common.{not, nat_lt, refl, arith}
use Rattle.std.specs.Prelude.{if◌then◌else◌, IfOk, ◌==◌, length}
use Rattle.std.specs.Str.{bytes_eq}
use Rattle.std.proofs.lemmas.Bool.{ltb-false}
use Rattle.edi_base.specs.Limits.{are_digits, number_of}
use Rattle.edi_base.specs.Source.{TakesAtMost}
use Rattle.edi_base.proofs.Taken.{takes_more}
use Rattle.hub_parties.specs.Rows.{RegisterRows, role_of}
use Rattle.hub_parties.specs.declared.role.Role.{Role}
use Rattle.http_messages.specs.Fields.{values_of}
use Rattle.http_messages.specs.Head.{Heading, longest_head}
use Rattle.hub_http.specs.Answer.{size_asked}
use Rattle.hub_http.specs.Asked.{Asked, announced_length, asked_by, at_route, by_keys, by_number, by_role, by_route}
use Rattle.hub_http.specs.Asked.{encoding_field, is_single, key_field, length_field, longest_body, posted_length, route_in, size_of}
use Rattle.hub_http.specs.Asked.{with_size}
use Rattle.hub_http.specs.Parts.{first, second}
use Rattle.hub_http.specs.Route.{is_post, may_ask, method_of, number_at}
use Rattle.hub_http.specs.declared.refusal.Refusal.{Refusal}
use Rattle.hub_http.specs.declared.refusal.Refusal.TheVariants.{BadRequest, Method, Denied, Length, TooLarge}
use Rattle.hub_http.specs.declared.route.Route.{Route}

-- at most this many bytes, and then at most as many more
pub both_taken : (a b c : Option (List ℕ)) (first more : ℕ) → TakesAtMost a b first → TakesAtMost b c more
    → TakesAtMost a c (first + more)
both_taken a b c first more taken later =
    let within = taken.within in
    takes_more a b c taken.front more (first + more) taken.taken later (omega (arith, within))

-- at most a number, and so at most a greater one
pub taken_within : (a b : Option (List ℕ)) (few many : ℕ) → few ≤ many → TakesAtMost a b few → TakesAtMost a b many
taken_within a b few many fits taken =
    let within = taken.within in
    record { front = taken.front; taken = taken.taken; within = omega (arith, within, fits) }

-- at most the whole, of which a part was read before
pub body_within : (size there : ℕ) (a b : Option (List ℕ)) → TakesAtMost a b (size - there) → TakesAtMost a b size
body_within size there a b taken = taken_within a b (size - there) size (omega arith) taken

-- a size, if there is one, is within the limit
abbrev Short : Result ℕ Refusal → Type 0
Short r = IfOk r (λ size. size ≤ longest_body)

limited : (digits above : Bool) (n : ℕ) → nat_lt longest_body n ≡ above
    → Short (if not digits then Err BadRequest else if above then Err TooLarge else Ok n)
limited false above n is = tt
limited true true n is = tt
limited true false n is = ltb-false longest_body n is

announced_short : (values : List (List ℕ)) → Short (announced_length values)
announced_short [] = tt
announced_short (value ∷ []) = limited (are_digits 1 longest_head value) (nat_lt longest_body (number_of value)) (number_of value) refl
announced_short (value ∷ other ∷ values) = tt

short_if : (test : Bool) (r s : Result ℕ Refusal) → Short r → Short s → Short (if test then r else s)
short_if true r s first second = first
short_if false r s first second = second

size_short : (route : Route) (fields : List (List ℕ × List ℕ)) → Short (size_of route fields)
size_short route fields =
    short_if (is_post route) (posted_length fields) (Ok 0)
    (short_if (length (values_of encoding_field fields) == 0) (announced_length (values_of length_field fields)) (Err Length)
    (announced_short (values_of length_field fields)) tt)
    (omega arith)

few_if : (test : Bool) (r s : Result Asked Refusal) → size_asked r ≤ longest_body → size_asked s ≤ longest_body
    → size_asked (if test then r else s) ≤ longest_body
few_if true r s first second = first
few_if false r s first second = second

with_short : (route : Route) (gln part : List ℕ) (number : ℕ) (key : List ℕ) (size : Result ℕ Refusal) → Short size
    → size_asked (with_size route gln part number key size) ≤ longest_body
with_short route gln part number key (Ok size) short = short
with_short route gln part number key (Err refusal) short = omega arith

role_short : (head : Heading) (route : Route) (gln part : List ℕ) (number : ℕ) (key : List ℕ) (role : Option Role)
    → size_asked (by_role head route gln part number key role) ≤ longest_body
role_short head route gln part number key None = omega arith
role_short head route gln part number key (Some role) =
    few_if (may_ask role route) (with_size route gln part number key (size_of route head.fields)) (Err Denied)
    (with_short route gln part number key (size_of route head.fields) (size_short route head.fields)) (omega arith)

module _ (register : RegisterRows) (head : Heading) (route : Route) (party part : List ℕ) where
  keys_short : (number : ℕ) (keys : List (List ℕ)) → size_asked (by_keys register head route party part number keys) ≤ longest_body
  keys_short number [] = omega arith
  keys_short number (key ∷ []) = role_short head route party part number key (role_of register party key)
  keys_short number (key ∷ other ∷ keys) = omega arith

  number_short : (found : Option ℕ) → size_asked (by_number register head route party part found) ≤ longest_body
  number_short None = omega arith
  number_short (Some number) =
      few_if (not (bytes_eq head.method (method_of route))) (Err Method)
      (by_keys register head route party part number (values_of key_field head.fields)) (omega arith)
      (keys_short number (values_of key_field head.fields))

  route_short : size_asked (by_route register head route party part) ≤ longest_body
  route_short = number_short (number_at route part)

at_short : (register : RegisterRows) (head : Heading) (found : Option (Route × List (List ℕ)))
    → size_asked (at_route register head found) ≤ longest_body
at_short register head None = omega arith
at_short register head (Some (route, parts)) = route_short register head route (first parts) (second parts)

-- a head never asks for a longer body
pub asked_short : (register : RegisterRows) (head : Heading) → size_asked (asked_by register head) ≤ longest_body
asked_short register head =
    few_if (not (is_single head)) (Err BadRequest) (at_route register head (route_in head.target)) (omega arith)
    (at_short register head (route_in head.target))

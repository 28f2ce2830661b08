-- Proves what a head asks for once it has passed the first check.
use Rattle.std.proofs.Common.{◌≡◌, ℕ, List, Bool, true, false, not, Option, Some, Result, Ok, Err, ap, refl, sym, ◌∙◌}
use Rattle.std.specs.Prelude.{if◌then◌else◌}
use Rattle.hub_parties.specs.Rows.{RegisterRows}
use Rattle.http_messages.specs.Head.{Heading}
use Rattle.hub_http.specs.Asked.{Asked, asked_by, at_route, by_route, is_single, route_in}
use Rattle.hub_http.specs.Parts.{first, part_in, parts, party}
use Rattle.hub_http.specs.declared.refusal.Refusal.{Refusal}
use Rattle.hub_http.specs.declared.refusal.Refusal.TheVariants.{BadRequest}
use Rattle.hub_http.specs.declared.route.Route.{Route}
use Rattle.hub_http.specs.declared.route.Route.TheVariants.{Interchanges, MailAfter, MailItem, MailTaken}
use Rattle.hub_http.specs.declared.route.Route.TheVariants.{Status, StatusOf, Cancellations}

-- the party is the first part on every route
party_first : (route : Route) (path : List ℕ) → party path ≡ first (parts route path)
party_first Interchanges path = refl
party_first MailAfter path = refl
party_first MailItem path = refl
party_first MailTaken path = refl
party_first Status path = refl
party_first StatusOf path = refl
party_first Cancellations path = refl

pub asked_on : (register : RegisterRows) (head : Heading) (route : Route) (path : List ℕ)
    → by_route register head route (party path) (part_in route path) ≡ at_route register head (Some (route, parts route path))
asked_on register head route path =
    ap (λ who. by_route register head route who (part_in route path)) (party_first route path)

pub asked_single : (register : RegisterRows) (head : Heading) (found : Option (Route × List (List ℕ)))
    → is_single head ≡ true → found ≡ route_in head.target → at_route register head found ≡ asked_by register head
asked_single register head found single same =
    ap (at_route register head) same
    ∙ ap (λ b. if not b then Err BadRequest else at_route register head (route_in head.target)) (sym single)

passed_so : (b : Bool) (asked : Asked) (r : Result Asked Refusal) → Ok asked ≡ (if not b then Err BadRequest else r) → b ≡ true
passed_so true asked r e = refl
passed_so false asked r e = cc

-- a head that asks for something has passed the first check
pub passed_first : (register : RegisterRows) (head : Heading) (asked : Asked) → Ok asked ≡ asked_by register head
    → is_single head ≡ true
passed_first register head asked e = passed_so (is_single head) asked (at_route register head (route_in head.target)) e

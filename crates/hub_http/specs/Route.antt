-- Defines the method and the role for a route, and the number in its path.
use Rattle.std.specs.Prelude.{ℕ, Bool, true, false, if◌then◌else◌, List, codes, Option, Some}
use Rattle.hub_parties.specs.declared.role.Role.{Role}
use Rattle.hub_parties.specs.declared.role.Role.TheVariants.{Retailer, Supplier}
use Rattle.hub_core.specs.HubTexts.Number.{number_in}
use Rattle.hub_http.specs.declared.route.Route.{Route}
use Rattle.hub_http.specs.declared.route.Route.TheVariants.{Interchanges, MailAfter, MailItem, MailTaken}
use Rattle.hub_http.specs.declared.route.Route.TheVariants.{Status, StatusOf, Cancellations}

abbrev pub is_post : Route → Bool
is_post Interchanges = true
is_post MailAfter = false
is_post MailItem = false
is_post MailTaken = true
is_post Status = false
is_post StatusOf = false
is_post Cancellations = true

abbrev pub method_of : Route → List ℕ
method_of route = if is_post route then codes "POST" else codes "GET"

-- mail and one's own status are for suppliers; the status of a supplier and cancellations are for the retailer
abbrev pub may_ask : Role → Route → Bool
may_ask Retailer Interchanges = true
may_ask Retailer MailAfter = false
may_ask Retailer MailItem = false
may_ask Retailer MailTaken = false
may_ask Retailer Status = false
may_ask Retailer StatusOf = true
may_ask Retailer Cancellations = true
may_ask Supplier Interchanges = true
may_ask Supplier MailAfter = true
may_ask Supplier MailItem = true
may_ask Supplier MailTaken = true
may_ask Supplier Status = true
may_ask Supplier StatusOf = false
may_ask Supplier Cancellations = false

-- the number of an entry, of 1 to 14 digits; 0 on a route without one
abbrev pub number_at : Route → List ℕ → Option ℕ
number_at Interchanges part = Some 0
number_at MailAfter part = number_in part
number_at MailItem part = number_in part
number_at MailTaken part = number_in part
number_at Status part = Some 0
number_at StatusOf part = Some 0
number_at Cancellations part = Some 0

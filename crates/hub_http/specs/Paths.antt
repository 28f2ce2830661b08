-- Defines the route of a path as what a router of seven routes finds. A path is the target of a request in origin form
-- without its query (RFC 9112, section 3.2.1). How a route is written, which one a path has, and which part of the path
-- the route's braces take is as the router `matchit` defines it: braces take a segment, or the rest of one.
use Rattle.std.specs.Prelude.{◌≡◌, ℕ, List, [], map, Option, Some, None, Result, Ok, Err, codes}
use Rattle.matchit.specs.Rows.{RowsOf}
use Rattle.matchit.specs.Order.{placed}
use Rattle.matchit.specs.Seek.{first}
use Rattle.matchit.specs.Params.{walk}
use Rattle.matchit.specs.Route.{Scan, parse_route}
use Rattle.matchit.specs.Router.{RouteOf, route_from}
use Rattle.matchit.specs.declared.error.InsertError.{InsertError}
use Rattle.hub_http.specs.declared.paths.Paths.TheInside.{Inside}
use Rattle.hub_http.specs.declared.route.Route.{Route}
use Rattle.hub_http.specs.declared.route.Route.TheVariants.{Interchanges, MailAfter, MailItem, MailTaken}
use Rattle.hub_http.specs.declared.route.Route.TheVariants.{Status, StatusOf, Cancellations}

-- the texts of a router's routes, each with its route
abbrev pub Routes : Type 0
Routes = RowsOf (RouteOf Route)

-- the routes with one more, as its text was read
abbrev pub added_scan : Result Scan InsertError → Route → Routes → Routes
added_scan (Ok scan) route routes = placed (scan.pattern, route_from scan route) routes
added_scan (Err wrong) route routes = routes

-- the routes with one more
abbrev pub added : List ℕ → Route → Routes → Routes
added text route routes = added_scan (parse_route text) route routes

-- the seven routes
unfoldable pub seven : Routes
seven =
    added (codes "/p/{gln}/cancellations") Cancellations
    (added (codes "/p/{gln}/status/{supplier}") StatusOf
    (added (codes "/p/{gln}/status") Status
    (added (codes "/p/{gln}/mail/item/{n}/taken") MailTaken
    (added (codes "/p/{gln}/mail/item/{n}") MailItem
    (added (codes "/p/{gln}/mail/after/{n}") MailAfter
    (added (codes "/p/{gln}/interchanges") Interchanges []))))))

abbrev pub routes_in : Inside → Routes
routes_in p = p.router

abbrev pub IsSeven : Inside → Type 0
IsSeven p = p.router ≡ seven

-- the parts that a route's braces take from a path
abbrev pub parts_by : RouteOf Route → List ℕ → List (List ℕ)
parts_by found path = map (λ named. named.1) (walk found.pattern found.text path found.names 0 0)

-- the route that was found, and its parts
abbrev pub with_parts : List ℕ → Option (RouteOf Route) → Option (Route × List (List ℕ))
with_parts path None = None
with_parts path (Some found) = Some (found.value, parts_by found path)

-- the route of a path, and the parts that its braces take
abbrev pub route_at : List ℕ → Option (Route × List (List ℕ))
route_at path = with_parts path (first seven path)

-- Proves that the seven routes take the parts that are computed from the path alone.
use Rattle.std.proofs.Common.{◌≡◌, ℕ, ◌+◌, List, [], ◌∷◌, ◌++◌, length, map, drop}
use Rattle.std.proofs.Common.{Bool, true, false, cond, ltb, suc, Some, Result}
use Rattle.std.proofs.Common.{Ok, Err, codes, refl, ap, ◌∙◌, arith}
use Rattle.matchit.specs.Rows.{param_token}
use Rattle.matchit.specs.Route.{Scan, parse_route}
use Rattle.matchit.specs.Router.{RouteOf, route_from}
use Rattle.matchit.specs.Params.{walk, wild_from, wild_stop, next_at, part_of, after_token}
use Rattle.matchit.specs.Seek.{first}
use Rattle.matchit.specs.declared.error.InsertError.{InsertError}
use Rattle.matchit.proofs.OnLiterals.{matchit_on_literals}
use Rattle.hub_http.specs.Paths.{Routes, added_scan, seven, parts_by, with_parts, route_at}
use Rattle.hub_http.specs.Parts.{parts, begin}
use Rattle.hub_http.specs.declared.route.Route.{Route}
use Rattle.hub_http.specs.declared.route.Route.TheVariants.{Interchanges, MailAfter, MailItem, MailTaken, Status}
use Rattle.hub_http.specs.declared.route.Route.TheVariants.{StatusOf, Cancellations}
use Rattle.std.proofs.lemmas.Bool.{ltb-true, ltb-false}
use Rattle.hub_http.proofs.Among.{EachKey, each_placed, found_holds}

-- a route takes these parts
abbrev pub Takes : RouteOf Route → Type 0
Takes r = (path : List ℕ) → parts_by r path ≡ parts r.value path

-- every token is a byte that matches itself
abbrev pub are_literals : List ℕ → Bool
are_literals [] = true
are_literals (x ∷ w) = cond (ltb x param_token) (are_literals w) false

begin_by : (v : Bool) (k len at : ℕ) → ltb at len ≡ v → begin k len (cond v (at + 1) at) ≡ begin (suc k) len at
begin_by true k len at e = omega (arith, ltb-true at len e)
begin_by false k len at e = omega (arith, ltb-false at len e)

begin_next : (k len at : ℕ) → begin k len (next_at len at) ≡ begin (suc k) len at
begin_next k len at = begin_by (ltb at len) k len at refl

-- matching such tokens
literals : (w rest : List ℕ) (len token at : ℕ) → are_literals w ≡ true
    → wild_from (w ++ rest) len token at ≡ wild_from rest len (token + length w) (begin (length w) len at)
literals [] rest len token at all =
    let e : token ≡ token + 0 = omega arith in
    let f : at ≡ begin 0 len at = omega arith in
    ap (λ t. wild_from rest len t at) e ∙ ap (λ a. wild_from rest len (token + 0) a) f
literals (x ∷ w) rest len token at all =
    elim (ltb x param_token)
    as (λ v. cond v (are_literals w) false ≡ true → cond {A = ℕ × ℕ} v (wild_from (w ++ rest) len (token + 1) (next_at len at))
    (token, at) ≡ wild_from rest len (token + suc (length w)) (begin (suc (length w)) len at)) [
      | true ↦ λ all.
          let e : token + 1 + length w ≡ token + suc (length w) = omega arith in
          literals w rest len (token + 1) (next_at len at) all
          ∙ ap (λ t. wild_from rest len t (begin (length w) len (next_at len at))) e
          ∙ ap (λ a. wild_from rest len (token + suc (length w)) a) (begin_next (length w) len at)
      | false ↦ λ all. absurd (cc)
    ] all

-- routes with one part, and with two
one : (pattern text path : List ℕ) (name : ℕ × ℕ) (token at : ℕ) → wild_from pattern (length path) 0 0 ≡ (token, at)
    → map (λ pair. pair.1) (walk pattern text path (name ∷ []) 0 0) ≡ part_of path at (wild_stop pattern token path at) ∷ []
one pattern text path name token at e = ap (λ w. part_of path w.1 (wild_stop pattern w.0 path w.1) ∷ []) e

two : (pattern text path : List ℕ) (first second : ℕ × ℕ) (token at later : ℕ) (on : ℕ → ℕ) → wild_from pattern (length path) 0 0 ≡
    (token, at)
    → ((from : ℕ) → wild_from (drop (after_token token) pattern) (length path) (after_token token) from ≡ (later, on from))
    → map (λ pair. pair.1) (walk pattern text path (first ∷ second ∷ []) 0 0)
    ≡ part_of path at (wild_stop pattern token path at)
    ∷ part_of path (on (wild_stop pattern token path at)) (wild_stop pattern later path (on (wild_stop pattern token path at))) ∷ []
two pattern text path first second token at later on e next =
    ap (λ (w : ℕ × ℕ). part_of path w.1 (wild_stop pattern w.0 path w.1)
    ∷ map (λ pair. pair.1) (walk pattern text path (second ∷ []) (after_token w.0) (wild_stop pattern w.0 path w.1))) e
    ∙ ap (λ (w : ℕ × ℕ). part_of path at (wild_stop pattern token path at) ∷ part_of path w.1 (wild_stop pattern w.0 path w.1) ∷ [])
    (next (wild_stop pattern token path at))

abbrev pub TakesRead : Result Scan InsertError → Route → Type 0
TakesRead (Ok s) route = Takes (route_from s route)
TakesRead (Err e) route = Unit {0}

each_added : (read : Result Scan InsertError) (route : Route) (routes : Routes) → TakesRead read route → EachKey Takes routes
    → EachKey Takes
    (added_scan read route routes)
each_added (Ok s) route routes takes each = each_placed Takes (s.pattern, route_from s route) routes takes each
each_added (Err e) route routes takes each = each

interchanges_takes : TakesRead (parse_route (codes "/p/{gln}/interchanges")) Interchanges
unfolding matchit_on_literals
interchanges_takes path = one (codes "/p/" ++ 256 ∷ codes "/interchanges") (codes "/p/{gln}/interchanges") path (4, 7) 3
    (begin 3 (length path) 0) (literals (codes "/p/") (256 ∷ codes "/interchanges") (length path) 0 0 refl)

mail_after_takes : TakesRead (parse_route (codes "/p/{gln}/mail/after/{n}")) MailAfter
unfolding matchit_on_literals
mail_after_takes path =
    two (codes "/p/" ++ (256 ∷ codes "/mail/after/" ++ 256 ∷ [])) (codes "/p/{gln}/mail/after/{n}") path (4, 7) (21, 22) 3
    (begin 3 (length path) 0) 16 (begin 12 (length path))
    (literals (codes "/p/") (256 ∷ codes "/mail/after/" ++ 256 ∷ []) (length path) 0 0 refl)
    (λ from. literals (codes "/mail/after/") (256 ∷ []) (length path) 4 from refl)

mail_item_takes : TakesRead (parse_route (codes "/p/{gln}/mail/item/{n}")) MailItem
unfolding matchit_on_literals
mail_item_takes path =
    two (codes "/p/" ++ (256 ∷ codes "/mail/item/" ++ 256 ∷ [])) (codes "/p/{gln}/mail/item/{n}") path (4, 7) (20, 21) 3
    (begin 3 (length path) 0) 15 (begin 11 (length path))
    (literals (codes "/p/") (256 ∷ codes "/mail/item/" ++ 256 ∷ []) (length path) 0 0 refl)
    (λ from. literals (codes "/mail/item/") (256 ∷ []) (length path) 4 from refl)

mail_taken_takes : TakesRead (parse_route (codes "/p/{gln}/mail/item/{n}/taken")) MailTaken
unfolding matchit_on_literals
mail_taken_takes path =
    two (codes "/p/" ++ (256 ∷ codes "/mail/item/" ++ 256 ∷ codes "/taken")) (codes "/p/{gln}/mail/item/{n}/taken") path (4, 7) (20, 21) 3
    (begin 3 (length path) 0) 15 (begin 11 (length path))
    (literals (codes "/p/") (256 ∷ codes "/mail/item/" ++ 256 ∷ codes "/taken") (length path) 0 0 refl)
    (λ from. literals (codes "/mail/item/") (256 ∷ codes "/taken") (length path) 4 from refl)

status_takes : TakesRead (parse_route (codes "/p/{gln}/status")) Status
unfolding matchit_on_literals
status_takes path = one (codes "/p/" ++ 256 ∷ codes "/status") (codes "/p/{gln}/status") path (4, 7) 3 (begin 3 (length path) 0)
    (literals (codes "/p/") (256 ∷ codes "/status") (length path) 0 0 refl)

status_of_takes : TakesRead (parse_route (codes "/p/{gln}/status/{supplier}")) StatusOf
unfolding matchit_on_literals
status_of_takes path =
    two (codes "/p/" ++ (256 ∷ codes "/status/" ++ 256 ∷ [])) (codes "/p/{gln}/status/{supplier}") path (4, 7) (17, 25) 3
    (begin 3 (length path) 0) 12 (begin 8 (length path))
    (literals (codes "/p/") (256 ∷ codes "/status/" ++ 256 ∷ []) (length path) 0 0 refl)
    (λ from. literals (codes "/status/") (256 ∷ []) (length path) 4 from refl)

cancellations_takes : TakesRead (parse_route (codes "/p/{gln}/cancellations")) Cancellations
unfolding matchit_on_literals
cancellations_takes path = one (codes "/p/" ++ 256 ∷ codes "/cancellations") (codes "/p/{gln}/cancellations") path (4, 7) 3
    (begin 3 (length path) 0) (literals (codes "/p/") (256 ∷ codes "/cancellations") (length path) 0 0 refl)

pub each_seven : EachKey Takes seven
unfolding seven
each_seven =
    each_added _ Cancellations _ cancellations_takes
    (each_added _ StatusOf _ status_of_takes
    (each_added _ Status _ status_takes
    (each_added _ MailTaken _ mail_taken_takes
    (each_added _ MailItem _ mail_item_takes
    (each_added _ MailAfter _ mail_after_takes
    (each_added _ Interchanges _ interchanges_takes tt))))))

-- the parts of a path whose route is found
pub found_parts : (path : List ℕ) (r : RouteOf Route) → first seven path ≡ Some r → route_at path ≡ Some (r.value, parts r.value path)
found_parts path r e =
    ap (with_parts path) e ∙ ap (λ l. Some (r.value, l)) (found_holds Takes seven path r each_seven e path)

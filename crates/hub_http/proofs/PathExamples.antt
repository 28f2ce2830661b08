-- Computes the routes of two paths; each computes the whole router. The tests of calls try many more paths with the
-- function that is proved to return what this definition says.
use Rattle.std.proofs.Common.{◌≡◌, [], ◌∷◌, Some, None, codes, refl}
use Rattle.matchit.proofs.OnLiterals.{matchit_on_literals}
use Rattle.hub_http.specs.Paths.{seven, route_at}
use Rattle.hub_http.specs.declared.route.Route.TheVariants.{MailTaken}

mail_taken : route_at (codes "/p/a/mail/item/12/taken") ≡ Some (MailTaken, codes "a" ∷ codes "12" ∷ [])
unfolding seven matchit_on_literals
mail_taken = refl

slash_behind_a_status : route_at (codes "/p/a/status/") ≡ None
unfolding seven matchit_on_literals
slash_behind_a_status = refl

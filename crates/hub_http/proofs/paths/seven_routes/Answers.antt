use Rattle.std.proofs.Common.{◌≡◌, ap, ◌∙◌, codes, subst, IfOk}
use Rattle.hub_http.specs.Paths.{Routes, added, seven}
use Rattle.hub_http.specs.declared.route.Route.TheVariants.{Interchanges, MailAfter, MailItem, MailTaken, Status}
use Rattle.hub_http.specs.declared.route.Route.TheVariants.{StatusOf, Cancellations}
use Rattle.hub_http.proofs.paths.seven_routes.Goals as goal

pub returns : goal.returns
unfolding seven
returns c =
    subst (λ (routes : Routes). IfOk c.with_route-7.result
    (λ (router : Routes). router ≡ added (codes "/p/{gln}/cancellations") Cancellations routes))
    (c.in_ok-router-6.ensures ∙ ap (added (codes "/p/{gln}/status/{supplier}") StatusOf)
    (c.in_ok-router-5.ensures ∙ ap (added (codes "/p/{gln}/status") Status)
    (c.in_ok-router-4.ensures ∙ ap (added (codes "/p/{gln}/mail/item/{n}/taken") MailTaken)
    (c.in_ok-router-3.ensures ∙ ap (added (codes "/p/{gln}/mail/item/{n}") MailItem)
    (c.in_ok-router-2.ensures ∙ ap (added (codes "/p/{gln}/mail/after/{n}") MailAfter)
    (c.in_ok-router.ensures ∙ ap (added (codes "/p/{gln}/interchanges") Interchanges) c.new-router.ensures))))))
    c.with_route-7.ensures

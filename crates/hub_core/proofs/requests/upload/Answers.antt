use Rattle.std.proofs.Common.{sym, subst}
use Rattle.hub_law.specs.Opening.{Opened}
use Rattle.hub_law.specs.Requests.{uploaded}
use Rattle.hub_law.specs.Stops.{opened_for}
use Rattle.hub_core.specs.Callers.{delivered, addressed_by}
use Rattle.hub_core.specs.Steps.{AnsweredOrUndone, acts_of}
use Rattle.hub_core.specs.Broken.{BreaksAsked}
use Rattle.hub_core.proofs.requests.upload.Goals as goal

pub returns-clause-asked : goal.returns-clause-asked
returns-clause-asked g c may =
    let register = c.args.register.now in
    let deliver = delivered register c.args.caller in
    subst (λ (opened : Opened). AnsweredOrUndone g.S.Store c.args.store.now c.take_opened.new.store
    (acts_of (opened_for deliver (addressed_by register c.args.caller opened)))
    (λ mark t. uploaded deliver c.args.moment mark (addressed_by register c.args.caller opened) t) c.take_opened.result)
    (sym c.in_ok-interchange.ensures) (c.take_opened.ensures.asked may)

pub returns-clause-breaks : goal.returns-clause-breaks
returns-clause-breaks g c =
    let register = c.args.register.now in
    subst (λ (opened : Opened). BreaksAsked g.S.Store.plain
    (λ mark t. uploaded (delivered register c.args.caller) c.args.moment mark (addressed_by register c.args.caller opened) t)
    (g.S.Store.broken c.args.store.now) (g.S.Store.broken c.take_opened.new.store) c.take_opened.result)
    (sym c.in_ok-interchange.ensures) c.take_opened.ensures.breaks

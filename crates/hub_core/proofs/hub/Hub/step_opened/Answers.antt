use Rattle.std.proofs.Common.{ap, subst, ◌∙◌}
use Rattle.hub_law.specs.Replies.{reply}
use Rattle.hub_requests.specs.declared.reply.Outcome.TheVariants.{Stopped}
use Rattle.hub_requests.specs.declared.request.Request.TheVariants.{Upload}
use Rattle.hub_core.specs.Broken.{does_input}
use Rattle.hub_core.specs.Hub.{BreaksFrom, StepsFrom}
use Rattle.hub_core.specs.Steps.{input_of}
use Rattle.hub_core.proofs.Breaking.{replied_breaks}
use Rattle.hub_core.proofs.CleanRuns.{stepped_clean}
use Rattle.hub_core.proofs.Steps.{replied, asked_with}
use Rattle.hub_core.proofs.Stopping.{stopped_at_once}
use Rattle.hub_core.proofs.hub.Hub.step_opened.Goals as goal

-- What the hub does is what its parts do.

pub returns-in_default-clause-stepped : goal.returns-in_default-clause-stepped
returns-in_default-clause-stepped g c bytes opens =
    let says = c.stopped_reply.ensures ∙ ap (λ body. reply Stopped body) c.new.ensures in
    let input = input_of c.args.moment c.args.caller.now c.args.key.now (Upload bytes) in
    (stopped_at_once c.laws_of_the_machine.ensures g.S.Store c.args.self.now input c.stopped_reply.result says).stepped

pub returns-clause-stepped : goal.returns-clause-stepped
returns-clause-stepped g c bytes opens =
    let input = input_of c.args.moment c.args.caller.now c.args.key.now (Upload bytes) in
    subst (λ hub. StepsFrom g.S.Store hub (c.self.inside.register, c.answer_opened-answered.new.store) input c.reply_or_stop.result)
    c.self.view_is (λ honest here.
    replied c.laws_of_the_machine.ensures g.S.Store c.self.inside.store c.answer_opened-answered.new.store input
    c.answer_opened-answered.result c.in-Ok.stopped c.reply_or_stop.result c.in-Ok.ensures
    c.reply_or_stop.ensures.ok c.reply_or_stop.ensures.err honest here.sound
    (asked_with g.S.Store c.self.inside.store c.answer_opened-answered.new.store c.self.inside.register input
    c.answer_opened-answered.result here
    (c.answer_opened-answered.ensures.asked bytes opens here)))

pub returns-clause-clean : goal.returns-clause-clean
returns-clause-clean g c bytes opens =
    let input = input_of c.args.moment c.args.caller.now c.args.key.now (Upload bytes) in
    let stepped = returns-clause-stepped g c bytes opens in
    λ honest here clean within.
    stepped_clean (g.S.Store.content c.args.self.now.1) (g.S.Store.content c.answer_opened-answered.new.store)
    (g.S.Store.left c.args.self.now.1) (g.S.Store.left c.answer_opened-answered.new.store) input c.reply_or_stop.result
    (stepped honest here) here.sound clean within

pub returns-clause-breaks : goal.returns-clause-breaks
returns-clause-breaks g c bytes opens =
    let input = input_of c.args.moment c.args.caller.now c.args.key.now (Upload bytes) in
    subst (λ hub. BreaksFrom g.S.Store hub (c.self.inside.register, c.answer_opened-answered.new.store) input c.reply_or_stop.result)
    c.self.view_is
    (replied_breaks g.S.Store.plain (does_input c.self.inside.register input)
    (g.S.Store.broken c.self.inside.store) (g.S.Store.broken c.answer_opened-answered.new.store) c.answer_opened-answered.result
    c.in-Ok.stopped c.reply_or_stop.result c.reply_or_stop.ensures.ok c.reply_or_stop.ensures.err
    (c.answer_opened-answered.ensures.breaks bytes opens))

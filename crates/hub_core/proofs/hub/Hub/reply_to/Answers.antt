use Rattle.std.proofs.Common.{ap, inl, inr, subst, ◌∙◌}
use Rattle.hub_law.specs.Replies.{reply}
use Rattle.hub_requests.specs.declared.reply.Outcome.TheVariants.{Stopped}
use Rattle.hub_core.specs.Broken.{does_input}
use Rattle.hub_core.specs.Hub.{AnswersInput, JoinsBy, StepsFrom}
use Rattle.hub_core.specs.Steps.{input_of}
use Rattle.hub_core.proofs.Breaking.{replied_breaks}
use Rattle.hub_core.proofs.CleanRuns.{stepped_clean}
use Rattle.hub_core.proofs.Keeping.{join_or_none, join_replied, rows_kept, still_held}
use Rattle.hub_core.proofs.Steps.{replied, asked_with}
use Rattle.hub_core.proofs.Stopping.{stopped_at_once}
use Rattle.hub_core.proofs.hub.Hub.reply_to.Goals as goal

-- there is no memory even for the word
pub returns-in_default : goal.returns-in_default
returns-in_default g c =
    let input = input_of c.args.moment c.args.caller.now c.args.key.now c.args.request.now in
    let says = c.stopped_reply.ensures ∙ ap (λ body. reply Stopped body) c.new.ensures in
    stopped_at_once c.laws_of_the_machine.ensures g.S.Store c.args.self.now input c.stopped_reply.result says

pub returns : goal.returns
returns g c =
    let did = c.answer-answered.ensures in
    let input = input_of c.args.moment c.args.caller.now c.args.key.now c.args.request.now in
    let register = c.self.inside.register in
    let does = does_input register input in
    let given = c.reply_or_stop.result in
    let stepped : StepsFrom g.S.Store (register, c.self.inside.store)
    (c.answer-answered.new.register, c.answer-answered.new.store) input given =
    λ honest here.
    replied c.laws_of_the_machine.ensures g.S.Store c.self.inside.store c.answer-answered.new.store input
    c.answer-answered.result c.in-Ok.stopped given c.in-Ok.ensures c.reply_or_stop.ensures.ok c.reply_or_stop.ensures.err
    honest here.sound
    (asked_with g.S.Store c.self.inside.store c.answer-answered.new.store register input c.answer-answered.result here (did.asked here)) in
    let joined : JoinsBy register c.answer-answered.new.register input given = λ row is.
    join_replied row register c.answer-answered.new.register does c.answer-answered.result c.in-Ok.stopped given (did.joined row is)
    did.undone c.reply_or_stop.ensures.ok c.reply_or_stop.ensures.err in
    subst (λ hub. AnswersInput g.S.Store hub (c.answer-answered.new.register, c.answer-answered.new.store) input given) c.self.view_is
    (record {
      stepped = stepped;
      held = λ honest here. record {
        sound = (stepped honest here).sound;
        held = elim (join_or_none c.args.request.now) [
          | inl join ↦ did.held join.0 join.1 honest here
          | inr other ↦ did.same other ∙ still_held here (stepped honest here) other
        ];
      };
      clean = λ honest here clean within.
          stepped_clean (g.S.Store.content c.self.inside.store) (g.S.Store.content c.answer-answered.new.store)
          (g.S.Store.left c.self.inside.store) (g.S.Store.left c.answer-answered.new.store) input given (stepped honest here) here.sound
          clean within;
      breaks =
          replied_breaks g.S.Store.plain does (g.S.Store.broken c.self.inside.store) (g.S.Store.broken c.answer-answered.new.store)
          c.answer-answered.result c.in-Ok.stopped given c.reply_or_stop.ensures.ok c.reply_or_stop.ensures.err did.breaks;
      joined = joined;
      keeps = rows_kept c.args.request.now register c.answer-answered.new.register does given joined did.same;
      register = did.same;
      broken = did.broken;
      was_honest = did.was_honest;
    })

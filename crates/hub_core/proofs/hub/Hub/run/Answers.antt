use Rattle.std.proofs.Common.{◌≡◌, ◌+◌, refl, List, [], ◌∷◌, ◌++◌, take, drop, length, length-append, arith, subst, sym, ap, ◌∙◌}
use Rattle.std.proofs.lemmas.Grind.{common_steps}
use Rattle.std.proofs.lemmas.List.{drop_more}
use Rattle.hub_requests.specs.declared.reply.Reply.{Reply}
use Rattle.hub_requests.specs.declared.request.Input.{Input}
use Rattle.hub_transactions.proofs.Joins.{keeps_all, keeps_on}
use Rattle.hub_core.specs.Broken.{Breaks, RunBreaks, does_input}
use Rattle.hub_core.specs.Steps.{IsNoJoin, Stepped, RunAndCrash, input_of}
use Rattle.hub_core.proofs.Breaking.{run_more, run_none, moved, moved_one}
use Rattle.hub_core.proofs.Steps.{ran_none, ran_more, all_at}
use Rattle.hub_core.proofs.CleanRuns.{ran_clean}
use Rattle.hub_core.proofs.hub.Hub.run.Goals as goal

pub loop-input-preserved : goal.loop-input-preserved
loop-input-preserved g c =
    let before_it = c.loop-input.self.0 in
    let register = c.reply_to-reply.new.self.0 in
    let t = g.S.Store.content c.args.self.now.1 in
    let middle = g.S.Store.content c.loop-input.self.1 in
    let after = g.S.Store.content c.reply_to-reply.new.self.1 in
    let before = g.S.Store.left c.args.self.now.1 in
    let left = g.S.Store.left c.loop-input.self.1 in
    let then = g.S.Store.left c.reply_to-reply.new.self.1 in
    let earlier = take c.loop-input.input-index c.args.inputs.now in
    let pushed : c.push.new.self.items ≡ c.loop-input.replies.items ++ c.reply_to-reply.result ∷ [] = grind (arith, common_steps) in
    let taken : take (c.loop-input.input-index + 1) c.args.inputs.now ≡ earlier ++ c.input-item.result ∷ [] = grind (arith, common_steps) in
    let asked : input_of c.input-item.result.moment c.input-item.result.caller c.as_slice-key.result.now
    c.input-item.result.request
    ≡ c.input-item.result =
    ap (λ key. input_of c.input-item.result.moment c.input-item.result.caller key c.input-item.result.request)
    c.as_slice-key.ensures in
    record {
      count = grind (arith, common_steps);
      room = grind (arith, common_steps);
      even =
          ap length taken ∙ length-append earlier (c.input-item.result ∷ [])
          ∙ ap (λ n. n + 1) c.loop-input.invariant.even
          ∙ sym (ap length pushed ∙ length-append c.loop-input.replies.items (c.reply_to-reply.result ∷ []));
      breaks =
          let one = subst (λ (input : Input). Breaks g.S.Store.plain (does_input before_it input) (g.S.Store.broken c.loop-input.self.1)
          (g.S.Store.broken c.reply_to-reply.new.self.1) c.reply_to-reply.result) asked c.reply_to-reply.ensures.breaks in
          subst (λ (xs : List Input). RunBreaks g.S.Store.plain register (g.S.Store.broken c.args.self.now.1)
          (g.S.Store.broken c.reply_to-reply.new.self.1) xs c.push.new.self.items) (sym taken)
          (subst (λ (rs : List Reply). RunBreaks g.S.Store.plain register (g.S.Store.broken c.args.self.now.1)
          (g.S.Store.broken c.reply_to-reply.new.self.1) (earlier ++ c.input-item.result ∷ []) rs) (sym pushed)
          (run_more register g.S.Store.plain earlier c.loop-input.replies.items c.input-item.result c.reply_to-reply.result
          c.loop-input.invariant.even (g.S.Store.broken c.args.self.now.1) (g.S.Store.broken c.loop-input.self.1)
          (g.S.Store.broken c.reply_to-reply.new.self.1)
          (moved g.S.Store.plain before_it register earlier c.loop-input.replies.items c.input-item.result c.reply_to-reply.result
          (g.S.Store.broken c.args.self.now.1) (g.S.Store.broken c.loop-input.self.1) c.reply_to-reply.ensures.broken
          c.loop-input.invariant.breaks)
          (moved_one g.S.Store.plain before_it register earlier c.loop-input.replies.items c.input-item.result c.reply_to-reply.result
          (g.S.Store.broken c.loop-input.self.1) (g.S.Store.broken c.reply_to-reply.new.self.1) c.reply_to-reply.ensures.broken one)));
      was_honest = λ honest. c.loop-input.invariant.was_honest (c.reply_to-reply.ensures.was_honest honest);
      ran = λ honest here.
          let was = c.reply_to-reply.ensures.was_honest honest in
          let so_far = c.loop-input.invariant.ran was here in
          let one = subst (λ (input : Input). Stepped middle after left then input c.reply_to-reply.result) asked
          (c.reply_to-reply.ensures.stepped honest (c.loop-input.invariant.held was here)) in
          subst (λ (xs : List Input). RunAndCrash t after before then xs c.push.new.self.items) (sym taken)
          (subst (λ (rs : List Reply). RunAndCrash t after before then (earlier ++ c.input-item.result ∷ []) rs) (sym pushed)
          (ran_more c.laws_of_the_machine.ensures t middle after before left
          then earlier c.input-item.result c.loop-input.replies.items c.reply_to-reply.result here.sound so_far one));
      held = λ honest here.
          c.reply_to-reply.ensures.held honest (c.loop-input.invariant.held (c.reply_to-reply.ensures.was_honest honest) here);
      keeps = keeps_on c.args.self.now.0 before_it register c.loop-input.invariant.keeps c.reply_to-reply.ensures.keeps;
      same = λ none.
          c.reply_to-reply.ensures.register (all_at (λ (input : Input). IsNoJoin input.request) c.args.inputs.now c.loop-input.input-index
          c.input-item.result none
          (drop_more c.args.inputs.now c.loop-input.input-index c.input-item.result c.loop-input-test.true
          ∙ ap (λ one. one ∷ drop (c.loop-input.input-index + 1) c.args.inputs.now) (sym c.input-item.is)))
          ∙ c.loop-input.invariant.same none;
    }

pub loop-input-init : goal.loop-input-init
loop-input-init g c = record {
  count = grind (arith, common_steps);
  room = grind (arith, common_steps);
  even = grind (arith, common_steps);
  breaks = subst (λ (rs : List Reply). RunBreaks g.S.Store.plain c.args.self.now.0 (g.S.Store.broken c.args.self.now.1)
      (g.S.Store.broken c.args.self.now.1) [] rs) (grind (arith, common_steps))
      (run_none c.args.self.now.0 g.S.Store.plain (g.S.Store.broken c.args.self.now.1));
  was_honest = λ honest. honest;
  ran =
      λ honest here. subst
      (λ (rs : List Reply). RunAndCrash (g.S.Store.content c.args.self.now.1) (g.S.Store.content c.args.self.now.1)
      (g.S.Store.left c.args.self.now.1) (g.S.Store.left c.args.self.now.1) [] rs) (grind (arith, common_steps))
      (ran_none c.laws_of_the_machine.ensures (g.S.Store.content c.args.self.now.1) (g.S.Store.left c.args.self.now.1) here.sound);
  held = λ honest here. here;
  keeps = keeps_all c.args.self.now.0 c.args.self.now.0 refl;
  same = λ none. refl;
}

pub returns-clause-ran : goal.returns-clause-ran
returns-clause-ran g c honest here =
    let t = g.S.Store.content c.args.self.now.1 in
    let after = g.S.Store.content c.loop-input.self.1 in
    let before = g.S.Store.left c.args.self.now.1 in
    let left = g.S.Store.left c.loop-input.self.1 in
    let all : take c.loop-input.input-index c.args.inputs.now ≡ c.args.inputs.now = grind (arith, common_steps) in
    subst (λ (xs : List Input). RunAndCrash t after before left xs c.from_vec.result) all
    (subst (λ (rs : List Reply). RunAndCrash t after before left (take c.loop-input.input-index c.args.inputs.now) rs)
    (sym c.from_vec.ensures) (c.loop-input.invariant.ran honest here))

pub returns-clause-breaks : goal.returns-clause-breaks
returns-clause-breaks g c =
    let all : take c.loop-input.input-index c.args.inputs.now ≡ c.args.inputs.now = grind (arith, common_steps) in
    subst (λ (xs : List Input). RunBreaks g.S.Store.plain c.loop-input.self.0 (g.S.Store.broken c.args.self.now.1)
    (g.S.Store.broken c.loop-input.self.1) xs c.from_vec.result) all
    (subst (λ (rs : List Reply). RunBreaks g.S.Store.plain c.loop-input.self.0 (g.S.Store.broken c.args.self.now.1)
    (g.S.Store.broken c.loop-input.self.1) (take c.loop-input.input-index c.args.inputs.now) rs)
    (sym c.from_vec.ensures) c.loop-input.invariant.breaks)

pub returns-clause-clean : goal.returns-clause-clean
returns-clause-clean g c = λ honest here clean all.
    ran_clean (g.S.Store.content c.args.self.now.1) (g.S.Store.content c.loop-input.self.1)
    (g.S.Store.left c.args.self.now.1) (g.S.Store.left c.loop-input.self.1) c.args.inputs.now c.from_vec.result
    (returns-clause-ran g c honest here) here.sound clean all

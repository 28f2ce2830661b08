use Rattle.std.proofs.Common.{inl, inr, refl, sym, subst, ◌∙◌, arith}
use Rattle.hub_parties.specs.Rows.{RegisterRows}
use Rattle.hub_http.specs.HubCore.Hub.{RunsFrom}
use Rattle.hub_serve.specs.Serve.{IsServed, inputs, replies}
use Rattle.hub_serve.specs.Broken.{StopsAtOnce}
use Rattle.hub_serve.proofs.Running.{runs_more}
use Rattle.hub_serve.proofs.SoFar.{cut_short, gave_up, lost, so_far_more, so_far_none}
use Rattle.hub_serve.proofs.Stopping.{was_whole}
use Rattle.hub_serve.proofs.serve.serve_on.Goals as goal

pub loop-number-init : goal.loop-number-init
loop-number-init g c = record {
  within = omega arith;
  going = (refl, refl);
  register = refl;
  goes_on = λ stops. inl refl;
  was_honest = λ honest. honest;
  held = λ honest sound. sound;
  so_far = so_far_none (λ honest sound. c.steps_are_a_run.ensures.none c.args.hub.now.1 sound.sound) (λ stops. inl refl);
}

pub returns-in-Err-clause-served : goal.returns-in-Err-clause-served
returns-in-Err-clause-served g c =
    let s = c.loop-number.invariant.so_far in
    cut_short s c.in-Err.ensures.served.1 c.in-Err.ensures.served.2 c.in-Err.ensures.stopped c.loop-number-test.true
    (subst (λ h. RunsFrom g.S.Store c.args.hub.now h (inputs s.served) (replies s.served))
    (sym c.in-Err.ensures.served.0) s.ran)
    (subst (λ h. StopsAtOnce g.S.Store c.args.on_broken c.args.hub.now h
    s.served) (sym c.in-Err.ensures.served.0) s.at_once)

pub returns-then-is_err-clause-served : goal.returns-then-is_err-clause-served
returns-then-is_err-clause-served g c =
    let s = c.loop-number.invariant.so_far in
    let one = c.in-Ok.ensures.served in
    let register = c.loop-number.invariant.register in
    lost s one.one one.passes (subst (λ (r : RegisterRows). IsServed r one.one) register one.is)
    (runs_more g.S.Store c.steps_are_a_run.ensures.more c.args.hub.now c.loop-number.hub
    c.serve_next.new.hub s.served one.one c.serve_next.ensures.was_honest c.loop-number.invariant.held s.ran one.did)
    (λ stops. inr (was_whole g.S.Store c.args.hub.now
    c.loop-number.hub c.serve_next.new.hub s.served one.one c.loop-number.number s.counted c.serve_next.ensures.was_honest
    (c.loop-number.invariant.goes_on stops) s.ran one.did))
    refl c.print_line.result (rw (sym one.ends) at c.print_line.ensures.bytes) c.print_line.ensures.flag
    (sym c.is_err.ensures.value ∙ c.if-is_err.true)
    (c.in-Ok.ensures.going.0 ∙ c.loop-number.invariant.going.0, c.in-Ok.ensures.going.1 ∙ c.loop-number.invariant.going.1)
    c.loop-number-test.true

pub returns-then-is_over-clause-served : goal.returns-then-is_over-clause-served
returns-then-is_over-clause-served g c =
    let s = c.loop-number.invariant.so_far in
    let one = c.in-Ok.ensures.served in
    let register = c.loop-number.invariant.register in
    let over = c.is_over.ensures.over c.if-is_over.true in
    gave_up s one.one one.passes (subst (λ (r : RegisterRows). IsServed r one.one) register one.is)
    (runs_more g.S.Store c.steps_are_a_run.ensures.more c.args.hub.now c.loop-number.hub
    c.serve_next.new.hub s.served one.one c.serve_next.ensures.was_honest c.loop-number.invariant.held s.ran one.did)
    (λ stops. inr (was_whole g.S.Store c.args.hub.now
    c.loop-number.hub c.serve_next.new.hub s.served one.one c.loop-number.number s.counted c.serve_next.ensures.was_honest
    (c.loop-number.invariant.goes_on stops) s.ran one.did))
    refl c.print_line.result (rw (sym one.ends) at c.print_line.ensures.bytes) c.print_line.ensures.flag
    (sym c.is_err.ensures.value ∙ c.if-is_err.false)
    (c.in-Ok.ensures.going.0 ∙ c.loop-number.invariant.going.0, c.in-Ok.ensures.going.1 ∙ c.loop-number.invariant.going.1)
    c.loop-number-test.true (
      over.0,
      (
        was_whole g.S.Store c.args.hub.now c.loop-number.hub
            c.serve_next.new.hub s.served one.one c.loop-number.number s.counted c.serve_next.ensures.was_honest
            (c.loop-number.invariant.goes_on over.0) s.ran one.did,
        over.1,
      ),
    )

pub loop-number-preserved : goal.loop-number-preserved
loop-number-preserved g c =
    let s = c.loop-number.invariant.so_far in
    let one = c.in-Ok.ensures.served in
    let register = c.loop-number.invariant.register in
    let fewer = c.loop-number-test.true in record {
      within = omega (arith, fewer);
      going =
          (c.in-Ok.ensures.going.0 ∙ c.loop-number.invariant.going.0, c.in-Ok.ensures.going.1 ∙ c.loop-number.invariant.going.1);
      register = c.serve_next.ensures.register ∙ register;
      goes_on = λ stops. inr (c.is_over.ensures.on c.if-is_over.false stops);
      was_honest = λ honest. c.loop-number.invariant.was_honest (c.serve_next.ensures.was_honest honest);
      held = λ honest sound.
          c.serve_next.ensures.held honest (c.loop-number.invariant.held (c.serve_next.ensures.was_honest honest) sound);
      so_far =
          so_far_more s one.one one.passes (subst (λ (r : RegisterRows). IsServed r one.one) register one.is)
          (runs_more g.S.Store c.steps_are_a_run.ensures.more c.args.hub.now c.loop-number.hub
          c.serve_next.new.hub s.served one.one c.serve_next.ensures.was_honest c.loop-number.invariant.held s.ran one.did)
          (λ stops. inr (was_whole g.S.Store c.args.hub.now
          c.loop-number.hub c.serve_next.new.hub s.served one.one c.loop-number.number s.counted c.serve_next.ensures.was_honest
          (c.loop-number.invariant.goes_on stops) s.ran one.did))
          refl c.print_line.result (rw (sym one.ends) at c.print_line.ensures.bytes) c.print_line.ensures.flag
          (sym c.is_err.ensures.value ∙ c.if-is_err.false)
          c.status.result c.max-greatest.ensures (rw (sym one.ends) at c.status.ensures);
    }

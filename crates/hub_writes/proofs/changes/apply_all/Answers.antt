use Rattle.std.proofs.Common.{◌≡◌, ◌<◌, ◌∷◌, ◌+◌, [], drop, get_or, length, Err, rules, sym, subst, ap, ◌∙◌}
use Rattle.std.proofs.lemmas.List.{at_drop_more, drop_all}
use Rattle.sqlite.specs.Held.{state}
use Rattle.hub_writes.specs.Acts.{Acts}
use Rattle.hub_writes.proofs.Steps.{none_run, run_none, run_one, run_all, run_failed}
use Rattle.hub_writes.proofs.changes.apply_all.Goals as goal

pub returns-in_err-touch-clause-acts : goal.returns-in_err-touch-clause-acts
returns-in_err-touch-clause-acts g c =
    let fault = c.in_err-touch.field-0.0 in
    let same : c.from_residual.result ≡ Err fault = search rules in
    subst (Acts c.args.changes.now (state g.S.Store c.args.tx.now.conn.now) (state g.S.Store c.touch.new.tx.conn.now))
    (sym same)
    (none_run c.args.changes.now _ _ fault (subst (Acts [] _ _) c.in_err-touch.was c.touch.ensures.acts))

pub changes-init : goal.changes-init
changes-init g c = (
  c.touch.ensures.same_reference,
  run_none c.args.changes.now _ _ (subst (Acts [] _ _) c.in_ok-touch.was c.touch.ensures.acts)
      c.in_ok-touch.ensures.was_open,
)

pub changes-preserved : goal.changes-preserved
changes-preserved g c =
    let all = c.args.changes.now in
    let at = c.changes.change-index in
    let low : at < length all = search rules in
    let here : get_or all at c.change-item.result ≡ c.change-item.result = search rules in
    let rest : drop at all ≡ c.change-item.result ∷ drop (at + 1) all =
    at_drop_more (λ xs. xs) all at c.change-item.result low ∙ ap (λ x. x ∷ drop (at + 1) all) here in (
      c.apply.ensures.same_reference ∙ c.changes.invariant.0,
      run_one all _ c.change-item.result _ _ _ (rw rest at c.changes.invariant.1) (subst (Acts (c.change-item.result
          ∷ []) _ _) c.in_ok-apply.was c.apply.ensures.acts),
    )

pub returns-in_err-apply-clause-acts : goal.returns-in_err-apply-clause-acts
returns-in_err-apply-clause-acts g c =
    let all = c.args.changes.now in
    let at = c.changes.change-index in
    let low : at < length all = search rules in
    let here : get_or all at c.change-item.result ≡ c.change-item.result = search rules in
    let rest : drop at all ≡ c.change-item.result ∷ drop (at + 1) all =
    at_drop_more (λ xs. xs) all at c.change-item.result low ∙ ap (λ x. x ∷ drop (at + 1) all) here in
    let fault = c.in_err-apply.field-0.0 in
    let same : c.from_residual-in_err-apply.result ≡ Err fault = search rules in
    subst (Acts all (state g.S.Store c.args.tx.now.conn.now) (state g.S.Store c.apply.new.tx.conn.now)) (sym same)
    (run_failed all _ c.change-item.result _ _ _ fault (rw rest at c.changes.invariant.1) (subst (Acts
    (c.change-item.result ∷ []) _ _) c.in_err-apply.was c.apply.ensures.acts))

pub returns-clause-acts : goal.returns-clause-acts
returns-clause-acts g c =
    let none : drop c.changes.change-index c.args.changes.now ≡ [] =
    drop_all c.changes.change-index c.args.changes.now c.changes-test.false in
    run_all c.args.changes.now _ _ (rw none at c.changes.invariant.1)

pub returns-clause-was_open : goal.returns-clause-was_open
returns-clause-was_open g c clean = (c.changes.invariant.1.stands clean).0

use Rattle.std.proofs.Common.{rules, ◌≡◌, sym, ◌∙◌, Err}
use Rattle.hub_rekey.proofs.Taking.{done, failed, unknown}
use Rattle.hub_rekey.proofs.key_change.rekey.Goals as goal

pub returns-in_default-clause-rekeys : goal.returns-in_default-clause-rekeys
returns-in_default-clause-rekeys g c = λ here.
    unknown g.S.Store c.args.store.now c.register.new.self c.args.owner.now
    c.args.key _ here (c.in_ok-register.ensures.looks (λ h. (here h).register)) (sym c.change_of.ensures.value ∙ c.in_default.is)

pub returns-in_err-commit-clause-rekeys : goal.returns-in_err-commit-clause-rekeys
returns-in_err-commit-clause-rekeys g c = λ here.
    let is : c.from_residual-in_err-commit.result ≡ Err c.in_err-commit.field-0.0 = search rules in
    failed g.S.Store c.args.store.now c.register.new.self c.args.owner.now
    c.args.key _ here (c.in_ok-register.ensures.looks (λ h. (here h).register)) c.commit.new.self c.in-Some.change
    c.change_of.ensures.valid (sym c.change_of.ensures.value ∙ c.in-Some.is) c.in_err-commit.field-0.0 _ is _
    c.in_err-commit.ensures.commits

pub returns-clause-rekeys : goal.returns-clause-rekeys
returns-clause-rekeys g c = λ here.
    done g.S.Store c.args.store.now c.register.new.self c.args.owner.now
    c.args.key _ here (c.in_ok-register.ensures.looks (λ h. (here h).register)) c.commit.new.self c.in-Some.change
    c.change_of.ensures.valid (sym c.change_of.ensures.value ∙ c.in-Some.is) _ c.in_ok-commit.ensures.commits

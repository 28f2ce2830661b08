use Rattle.std.proofs.Common.{◌≡◌, false, Option, None, Some, Result, Err, sym, ap, subst, ◌∙◌}
use Rattle.std.specs.Option.{IfSome}
use Rattle.hub_parties.specs.Rows.{RegisterRows}
use Rattle.hub_store.specs.Calls.{Fails, ReadsRegister, broken_after, fault_of}
use Rattle.hub_store.specs.declared.fault.LastingFault.{LastingFault}
use Rattle.hub_store.specs.declared.fault.StoreFault.{StoreFault}
use Rattle.trial_store.proofs.trial_store.TrialStoreStore.register.Goals as goal

-- a fault that occurs when there was none before is kept
noted : {plain : _} (result : Result RegisterRows StoreFault) (before after old new : Option LastingFault)
    → before ≡ None
    → after ≡ broken_after before result
    → Fails plain old new result
    → Fails false before after result
noted result None after old new none kept fails = record {
  again = tt;
  after = kept;
  not_version = fails.not_version;
  only_memory = λ plain. cc;
}
noted result (Some fault) after old new none kept fails = cc

none_again : (result : Result RegisterRows StoreFault) (before : Option LastingFault) → before ≡ None
    → IfSome before (λ fault. result ≡ Err (fault_of fault))
none_again result None none = tt
none_again result (Some fault) none = cc

pub returns-clause-held : goal.returns-clause-held
returns-clause-held g c =
    let below = c.register-found.ensures.held in
    let whole : c.self.inside.gate.broken ≡ None = c.in_ok-pass.ensures.open.0 in
    let kept = c.seen.ensures.broken ∙ ap (λ broken. broken_after broken c.register-found.result)
    (c.in_ok-pass.ensures.open.1 ∙ sym whole) in
    subst (λ trial. ReadsRegister (λ trial. g.S.Store.content trial.0) (λ trial. g.S.Store.honest trial.0)
    (λ trial. g.S.Store.left trial.0) (λ trial. trial.1) false trial
    (c.register-found.new.self, c.seen.new.self.broken, c.seen.new.self.look_ups, c.seen.new.self.commits) c.register-found.result)
    c.self.view_is (record {
      held = below.held;
      content_stays = below.content_stays;
      left_stays = below.left_stays;
      was_honest = below.was_honest;
      again = none_again c.register-found.result c.self.inside.gate.broken whole;
      fails = λ other. noted c.register-found.result c.self.inside.gate.broken _ _ _ whole kept (below.fails other);
    })

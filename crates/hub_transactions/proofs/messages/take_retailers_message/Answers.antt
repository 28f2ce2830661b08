use Rattle.std.proofs.Common.{rules, ◌≡◌, Ok, Err, sym, subst, ap, ◌∙◌}
use Rattle.hub_rules.specs.declared.incoming.IncomingMessage.{IncomingMessage}
use Rattle.hub_acts.specs.HubLaw.Messages.{incoming, named}
use Rattle.hub_acts.specs.HubLaw.Requests.{deliver_named}
use Rattle.hub_acts.specs.HubTexts.Decision.{told_of}
use Rattle.hub_acts.specs.Acts.{FailsWith}
use Rattle.hub_acts.specs.HubClean.Clean.{WithinMessage}
use Rattle.hub_transactions.specs.Judged.{act_of, JudgedFits, UnreadOf}
use Rattle.hub_transactions.specs.JudgesClean.{JudgedClean}
use Rattle.hub_acts.proofs.CleanActs.{clean_after_looking, failed_stays}
use Rattle.hub_transactions.proofs.Afterwards.{after_looking}
use Rattle.hub_transactions.proofs.Failing.{after_judging}
use Rattle.hub_transactions.proofs.messages.take_retailers_message.Goals as goal

pub returns-clause-carried : goal.returns-clause-carried
returns-clause-carried g c = λ hub rise.
    let register = c.args.register.now in
    let message = c.args.message.now in
    let came = incoming c.args.moment c.args.interchange.now message in
    let t = g.S.Store.content c.args.store.now in
    after_looking g.S.Store c.args.store.now
    c.decide_for_retailer.new.store c.commit_and_report.new.store
    (deliver_named register (message, came)) (act_of c.in_ok-judged.judged) told_of (JudgedFits c.in_ok-judged.judged)
    c.in_ok-judged.ensures.stays c.commit_and_report.ensures.unharmed.was_honest
    (λ honest. ap (λ one. deliver_named register (message, one) t) (sym c.in_ok-came.ensures)
    ∙ c.in_ok-judged.ensures.judged.told honest (hub.sound.kept (named message)))
    (λ honest. c.in_ok-judged.ensures.judged.fit honest hub rise)
    c.commit_and_report.result c.commit_and_report.ensures.carried

pub returns-clause-fails : goal.returns-clause-fails
returns-clause-fails g c =
    let register = c.args.register.now in
    let message = c.args.message.now in
    let came = incoming c.args.moment c.args.interchange.now message in
    let old = g.S.Store.broken c.args.store.now in
    let middle = g.S.Store.broken c.decide_for_retailer.new.store in
    let judged = c.in_ok-judged.judged in
    after_judging g.S.Store.plain ⊥ ⊥ old middle (g.S.Store.broken c.commit_and_report.new.store)
    (deliver_named register (message, came)) judged
    c.commit_and_report.result
    (subst (λ (one : IncomingMessage). FailsWith g.S.Store.plain ⊥
    (UnreadOf (deliver_named register (message, one))) old middle (Ok judged))
    c.in_ok-came.ensures c.in_ok-judged.ensures.fails)
    c.commit_and_report.ensures.fails

pub returns-clause-clean : goal.returns-clause-clean
returns-clause-clean g c = λ here rise within.
    let message = c.args.message.now in
    clean_after_looking g.S.Store c.args.store.now
    c.decide_for_retailer.new.store c.commit_and_report.new.store
    c.in_ok-judged.ensures.stays c.commit_and_report.ensures.unharmed.was_honest c.in_ok-judged.ensures.fails.after
    (JudgedFits c.in_ok-judged.judged) (JudgedClean c.in_ok-judged.judged)
    (λ honest. c.in_ok-judged.ensures.judged.fit honest here rise)
    (λ honest clean. (c.in_ok-judged.ensures.clean here
    (subst (WithinMessage message) (sym c.in_ok-came.ensures) within)).leaves honest clean)
    c.commit_and_report.result c.commit_and_report.ensures.clean

pub returns-in_err-judged-clause-clean : goal.returns-in_err-judged-clause-clean
returns-in_err-judged-clause-clean g c = λ here rise within.
    let message = c.args.message.now in
    let fault = c.in_err-judged.field-0.0 in
    let is : c.from_residual-in_err-judged.result ≡ Err fault = search rules in
    failed_stays g.S.Store c.args.store.now c.decide_for_retailer.new.store ⊥ (λ no. no) fault
    (c.in_err-judged.ensures.clean here (subst (WithinMessage message) (sym c.in_ok-came.ensures) within)).never
    c.from_residual-in_err-judged.result is c.in_err-judged.ensures.stays.content_stays

use Rattle.std.proofs.Common.{rules, ◌≡◌, Ok, Err, sym, subst, ap, ◌∙◌}
use Rattle.hub_rules.specs.declared.incoming.IncomingMessage.{IncomingMessage}
use Rattle.hub_parties.specs.Rows.{parties_of}
use Rattle.hub_tables.specs.Tables.{view}
use Rattle.hub_acts.specs.HubLaw.Messages.{incoming, deliver_suppliers}
use Rattle.hub_acts.specs.HubTexts.Decision.{told_of}
use Rattle.hub_acts.specs.Acts.{FailsWith}
use Rattle.hub_transactions.specs.Named.{MessageUnclean}
use Rattle.hub_acts.specs.HubClean.Clean.{WithinMessage}
use Rattle.hub_transactions.specs.Judged.{act_of, JudgedFits, UnreadOf}
use Rattle.hub_transactions.specs.JudgesClean.{JudgedClean}
use Rattle.hub_acts.proofs.CleanActs.{clean_after_looking, failed_stays}
use Rattle.hub_transactions.proofs.Afterwards.{after_looking}
use Rattle.hub_transactions.proofs.Failing.{after_judging}
use Rattle.hub_transactions.proofs.messages.take_suppliers_message.Goals as goal

pub returns-clause-carried : goal.returns-clause-carried
returns-clause-carried g c = λ old here rise.
    let register = c.args.register.now in
    let s = c.args.supplier.now in
    let message = c.args.message.now in
    let came = incoming c.args.moment c.args.interchange.now message in
    let t = g.S.Store.content c.args.store.now in
    after_looking g.S.Store c.args.store.now
    c.decide_for_supplier.new.store c.commit_and_report-told.new.store
    (deliver_suppliers (view s.gln) (parties_of register) s (message, came))
    (act_of c.in_ok-judged.judged) told_of (JudgedFits c.in_ok-judged.judged)
    c.in_ok-judged.ensures.stays c.commit_and_report-told.ensures.unharmed.was_honest
    (λ honest.
    ap (λ one. deliver_suppliers (view s.gln) (parties_of register) s (message, one) t) (sym c.in_ok-came.ensures)
    ∙ (c.in_ok-judged.ensures.judged old).told honest (here.sound.kept s.gln))
    (λ honest. (c.in_ok-judged.ensures.judged old).fit honest here rise)
    c.commit_and_report-told.result c.commit_and_report-told.ensures.carried

pub returns-clause-fails : goal.returns-clause-fails
returns-clause-fails g c =
    let register = c.args.register.now in
    let s = c.args.supplier.now in
    let message = c.args.message.now in
    let came = incoming c.args.moment c.args.interchange.now message in
    let old = g.S.Store.broken c.args.store.now in
    let middle = g.S.Store.broken c.decide_for_supplier.new.store in
    let judged = c.in_ok-judged.judged in
    let unclean : Type 0 = MessageUnclean message (view s.gln (g.S.Store.content c.args.store.now)) in
    after_judging g.S.Store.plain (g.S.Store.honest c.commit_and_report-told.new.store → unclean)
    (g.S.Store.honest c.decide_for_supplier.new.store → unclean)
    old middle (g.S.Store.broken c.commit_and_report-told.new.store)
    (deliver_suppliers (view s.gln) (parties_of register) s (message, came)) judged c.commit_and_report-told.result
    (subst (λ (one : IncomingMessage). FailsWith g.S.Store.plain (g.S.Store.honest c.decide_for_supplier.new.store → unclean)
    (UnreadOf (deliver_suppliers (view s.gln) (parties_of register) s (message, one))) old middle (Ok judged))
    c.in_ok-came.ensures c.in_ok-judged.ensures.fails)
    c.commit_and_report-told.ensures.fails

pub returns-clause-clean : goal.returns-clause-clean
returns-clause-clean g c = λ old here rise within.
    let message = c.args.message.now in
    clean_after_looking g.S.Store c.args.store.now
    c.decide_for_supplier.new.store c.commit_and_report-told.new.store
    c.in_ok-judged.ensures.stays c.commit_and_report-told.ensures.unharmed.was_honest c.in_ok-judged.ensures.fails.after
    (JudgedFits c.in_ok-judged.judged) (JudgedClean c.in_ok-judged.judged)
    (λ honest. (c.in_ok-judged.ensures.judged old).fit honest here rise)
    (λ honest clean. (c.in_ok-judged.ensures.clean old here
    (subst (WithinMessage message) (sym c.in_ok-came.ensures) within)).leaves honest clean)
    c.commit_and_report-told.result c.commit_and_report-told.ensures.clean

pub returns-in_err-judged-clause-clean : goal.returns-in_err-judged-clause-clean
returns-in_err-judged-clause-clean g c = λ old here rise within.
    let message = c.args.message.now in
    let fault = c.in_err-judged.field-0.0 in
    let is : c.from_residual-in_err-judged.result ≡ Err fault = search rules in
    failed_stays g.S.Store c.args.store.now c.decide_for_supplier.new.store ⊥ (λ no. no) fault
    (c.in_err-judged.ensures.clean old here (subst (WithinMessage message) (sym c.in_ok-came.ensures) within)).never
    c.from_residual-in_err-judged.result is c.in_err-judged.ensures.stays.content_stays

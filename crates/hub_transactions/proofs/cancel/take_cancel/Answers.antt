use Rattle.std.proofs.Common.{rules, ◌≡◌, Err, sym, subst, ap}
use Rattle.hub_parties.specs.Rows.{supplier_row}
use Rattle.hub_tables.specs.State.{lines_of}
use Rattle.hub_tables.specs.Tables.{Tables, view}
use Rattle.hub_order_lines.specs.KnownLines.{AreUnclean}
use Rattle.hub_rules.specs.Rules.{judge_cancel}
use Rattle.hub_acts.specs.HubLaw.CancelText.{cancel_text}
use Rattle.hub_acts.specs.HubLaw.Mark.{Whole}
use Rattle.hub_acts.specs.HubLaw.Replies.{act_reply}
use Rattle.hub_acts.specs.HubLaw.Requests.{cancel_named, answered, replied_by}
use Rattle.hub_acts.specs.HubLaw.Told.{act}
use Rattle.hub_acts.specs.HubRequests.declared.reply.Reply.{Reply}
use Rattle.hub_acts.specs.Acts.{as_told}
use Rattle.hub_acts.specs.Verdicts.{VerdictFits}
use Rattle.hub_acts.specs.HubClean.Clean.{VerdictClean}
use Rattle.hub_rules.specs.Submissions.{Cancels}
use Rattle.hub_acts.proofs.HubClean.Verdicts.{cancel_clean}
use Rattle.hub_acts.proofs.CleanActs.{clean_after_looking, failed_stays}
use Rattle.hub_transactions.proofs.Fitted.{named_fits}
use Rattle.hub_transactions.proofs.Afterwards.{after_looking}
use Rattle.hub_transactions.proofs.cancel.take_cancel.Goals as goal

pub returns-clause-carried : goal.returns-clause-carried
returns-clause-carried g c = λ hub rise.
    let register = c.args.register.now in
    let cancel = c.args.cancel.now in
    let t = g.S.Store.content c.args.store.now in
    let state = view cancel.supplier t in
    let does : Tables → Reply × Tables = λ t. answered Whole (cancel_named register cancel t) t in
    let verdict : g.S.Store.honest c.decide_cancel.new.store →
    c.in_ok-verdict.verdict ≡ judge_cancel (supplier_row register.suppliers cancel.supplier) (cancel_text cancel) cancel state =
    c.in_ok-verdict.ensures.verdict in
    after_looking g.S.Store c.args.store.now
    c.decide_cancel.new.store c.commit_and_reply.new.store
    does (λ t. replied_by act_reply (act c.in_ok-verdict.verdict t)) as_told
    (VerdictFits c.in_ok-verdict.verdict)
    c.in_ok-verdict.ensures.stays c.commit_and_reply.ensures.unharmed.was_honest
    (λ honest. ap (λ verdict. replied_by act_reply (act verdict t)) (sym (verdict honest)))
    (λ honest. subst (λ verdict. VerdictFits verdict t) (sym (verdict honest)) (named_fits register.suppliers cancel.supplier t
    (λ supplier. judge_cancel supplier (cancel_text cancel) cancel) hub tt
    (λ s here changes accepted. c.accepted_changes_fit.ensures register.suppliers s t (Cancels (cancel_text cancel) cancel) changes
    here rise tt accepted)))
    c.commit_and_reply.result c.commit_and_reply.ensures.carried

pub returns-clause-clean : goal.returns-clause-clean
returns-clause-clean g c = λ hub rise within.
    let register = c.args.register.now in
    let cancel = c.args.cancel.now in
    let t = g.S.Store.content c.args.store.now in
    let state = view cancel.supplier t in
    let verdict : g.S.Store.honest c.decide_cancel.new.store →
    c.in_ok-verdict.verdict ≡ judge_cancel (supplier_row register.suppliers cancel.supplier) (cancel_text cancel) cancel state =
    c.in_ok-verdict.ensures.verdict in
    clean_after_looking g.S.Store c.args.store.now
    c.decide_cancel.new.store c.commit_and_reply.new.store
    c.in_ok-verdict.ensures.stays c.commit_and_reply.ensures.unharmed.was_honest c.in_ok-verdict.ensures.fails.after
    (VerdictFits c.in_ok-verdict.verdict) (VerdictClean c.in_ok-verdict.verdict)
    (λ honest. subst (λ verdict. VerdictFits verdict t) (sym (verdict honest)) (named_fits register.suppliers cancel.supplier t
    (λ supplier. judge_cancel supplier (cancel_text cancel) cancel) hub tt
    (λ s here changes accepted. c.accepted_changes_fit.ensures register.suppliers s t (Cancels (cancel_text cancel) cancel) changes
    here rise tt accepted)))
    (λ honest clean. subst (λ verdict. VerdictClean verdict t) (sym (verdict honest))
    (cancel_clean register t cancel c.in_ok-verdict.ensures.register hub within clean))
    c.commit_and_reply.result c.commit_and_reply.ensures.clean

pub returns-in_err-verdict-clause-clean : goal.returns-in_err-verdict-clause-clean
returns-in_err-verdict-clause-clean g c = λ hub rise within.
    let register = c.args.register.now in
    let cancel = c.args.cancel.now in
    let t = g.S.Store.content c.args.store.now in
    let fault = c.in_err-verdict.field-0.0 in
    let is : c.from_residual.result ≡ Err fault = search rules in
    failed_stays g.S.Store c.args.store.now c.decide_cancel.new.store
    (AreUnclean (lines_of (view cancel.supplier t) cancel.order))
    (c.lines_of_sound_tables_are_known.ensures.order register.suppliers cancel.supplier cancel.order t hub.sound)
    fault c.in_err-verdict.ensures.unclean c.from_residual.result is c.in_err-verdict.ensures.stays.content_stays

use Rattle.std.proofs.Common.{rules, ◌≡◌, Some, Ok, Err, sym, ap, ◌∙◌}
use Rattle.hub_tables.specs.Change.{apply_all}
use Rattle.hub_tables.specs.Sets.{Rising}
use Rattle.hub_tables.specs.State.{entry_at}
use Rattle.hub_tables.specs.Tables.{view}
use Rattle.hub_clean.specs.HubLaw.Requests.{taking}
use Rattle.hub_acts.specs.Acts.{Stays}
use Rattle.hub_acts.proofs.CleanActs.{mark_clean, stays_at}
use Rattle.hub_acts.proofs.mailbox.take_entry.Goals as goal

pub returns-in_err-commit_if_any-clause-clean : goal.returns-in_err-commit_if_any-clause-clean
returns-in_err-commit_if_any-clause-clean g c = λ register s named here rise.
    let t = g.S.Store.content c.args.store.now in
    let gln = c.args.supplier.now in
    let number = c.args.number in
    let entry = c.in-Some.entry in
    let looks = c.in_ok-entry.ensures.looks in
    let fault = c.in_err-commit_if_any.field-0.0 in
    let is : c.from_residual-in_err-commit_if_any.result ≡ Err fault = search rules in
    let stays : Stays g.S.Store c.args.store.now c.mail_item.new.self =
    record { content_stays = looks.content_stays; left_stays = looks.left_stays; was_honest = looks.was_honest } in
    let found : g.S.Store.honest c.mail_item.new.self → entry_at (view gln t) number ≡ Some entry =
    λ honest. sym (looks.answers honest) ∙ c.in-Some.is in
    let rises : g.S.Store.honest c.mail_item.new.self → Rising (apply_all (taking entry) t) =
    λ honest. (c.acts_stay_sound.ensures.taken register s number entry t here rise
    (ap (λ gln. entry_at (view gln t) number) named ∙ found honest)).rising in
    stays_at g.S.Store c.args.store.now c.commit_if_any.new.store fault
    (mark_clean g.S.Store c.args.store.now c.mail_item.new.self c.commit_if_any.new.store stays
    c.in_err-commit_if_any.ensures.unharmed.was_honest c.in_ok-entry.ensures.fails.after gln number entry found rises
    c.as_slice.result.now (c.as_slice.ensures ∙ c.in_ok-changes.ensures)
    (Err fault) c.in_err-commit_if_any.ensures.clean)
    c.from_residual-in_err-commit_if_any.result is

pub returns-clause-clean : goal.returns-clause-clean
returns-clause-clean g c = λ register s named here rise.
    let t = g.S.Store.content c.args.store.now in
    let gln = c.args.supplier.now in
    let number = c.args.number in
    let entry = c.in-Some.entry in
    let looks = c.in_ok-entry.ensures.looks in
    let stays : Stays g.S.Store c.args.store.now c.mail_item.new.self =
    record { content_stays = looks.content_stays; left_stays = looks.left_stays; was_honest = looks.was_honest } in
    let found : g.S.Store.honest c.mail_item.new.self → entry_at (view gln t) number ≡ Some entry =
    λ honest. sym (looks.answers honest) ∙ c.in-Some.is in
    let rises : g.S.Store.honest c.mail_item.new.self → Rising (apply_all (taking entry) t) =
    λ honest. (c.acts_stay_sound.ensures.taken register s number entry t here rise
    (ap (λ gln. entry_at (view gln t) number) named ∙ found honest)).rising in
    let made = mark_clean g.S.Store c.args.store.now c.mail_item.new.self c.commit_if_any.new.store stays
    c.in_ok-commit_if_any.ensures.unharmed.was_honest c.in_ok-entry.ensures.fails.after gln number entry found rises
    c.as_slice.result.now (c.as_slice.ensures ∙ c.in_ok-changes.ensures)
    (Ok c.in_ok-commit_if_any.field-0) c.in_ok-commit_if_any.ensures.clean in
    record { never = λ honest none clean is. cc; rows = made.rows }

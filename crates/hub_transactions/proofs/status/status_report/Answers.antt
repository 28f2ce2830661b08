use Rattle.std.proofs.Common.{rules, ◌≡◌, ◌++◌, Err, inr, codes, sym, subst, ap, ap₂, ◌∙◌}
use Rattle.std.specs.List.{AllByRecursion, flat_map}
use Rattle.hub_tables.specs.Sets.{Has}
use Rattle.hub_tables.specs.Tables.{view}
use Rattle.hub_store.specs.Clean.{are_clean}
use Rattle.hub_store.specs.declared.fault.StoreFault.TheVariants.{Unclean}
use Rattle.hub_rules.specs.Sound.{Balanced}
use Rattle.hub_acts.specs.HubLaw.Replies.{done}
use Rattle.hub_acts.specs.HubLaw.StatusText.{line_text, pallet_text}
use Rattle.hub_transactions.specs.Status.{PalletUnclean, SeesPallet, StatusUnclean}
use Rattle.hub_transactions.proofs.Announced.{sees_pallet, unclean_seen}
use Rattle.hub_transactions.proofs.Failing.{fails_with}
use Rattle.hub_transactions.proofs.Reports.{report_is}
use Rattle.hub_transactions.proofs.status.status_report.Given as given
use Rattle.hub_transactions.proofs.status.status_report.Goals as goal
use Rattle.hub_transactions.proofs.status.status_report.Goals.{In_err-text}

pub returns-clause-reply : goal.returns-clause-reply
returns-clause-reply g c = λ honest kept.
    let supplier = c.args.supplier.now in
    let state = view supplier (g.S.Store.content c.args.store.now) in
    let third = c.in_ok-text.ensures.stays.was_honest honest in
    let second = c.all_pallets.ensures.looks.was_honest third in
    let one = c.all_lines.ensures.looks.content_stays second in
    let two = c.all_pallets.ensures.looks.content_stays third in
    let lines = c.as_slice-lines.ensures ∙ c.in_ok-ordered.ensures.looks.answers second in
    let pallets = c.as_slice-pallets.ensures ∙ c.in_ok-despatched.ensures.looks.answers third ∙ ap (λ t. (view supplier t).pallets) one in
    let balanced = subst (AllByRecursion (Balanced state)) (sym lines) kept.balanced in
    let first_text = c.in_ok-of_lines.ensures state balanced
    ∙ ap₂ (λ xs rows. xs ++ flat_map (line_text state) rows) c.new.ensures.items lines in
    let second_text = c.in_ok-text.ensures.text honest state (sym lines)
    (λ pallet has. subst (λ t. SeesPallet state t pallet) (sym (two ∙ one))
    (sees_pallet supplier (g.S.Store.content c.args.store.now) kept pallet (subst (λ rows. Has rows pallet) pallets has)))
    ∙ ap (λ rows. c.in_ok-of_lines.of_lines.items ++ flat_map (pallet_text state) rows) pallets
    ∙ ap (λ xs. xs ++ flat_map (pallet_text state) state.pallets) first_text in
    let third_text = c.in_ok-extend_from_slice.ensures.items ∙ ap (λ xs. xs ++ codes "end\n") second_text in
    c.done_reply.ensures ∙ ap done (c.from_vec-body.ensures ∙ third_text ∙ sym (report_is state))

-- a pallet whose pieces cannot be counted, as the supplier sees it
unclean_of : (g : given.Over) (c : In_err-text g)
    → g.S.Store.honest c.with_pallets.new.store
    → PalletUnclean (g.S.Store.content c.all_pallets.new.self) c.as_slice-lines.result.now c.as_slice-pallets.result.now
    → StatusUnclean (view c.args.supplier.now (g.S.Store.content c.args.store.now))
unclean_of g c honest unclean =
    let supplier = c.args.supplier.now in
    let t = g.S.Store.content c.args.store.now in
    let third = c.in_err-text.ensures.stays.was_honest honest in
    let second = c.all_pallets.ensures.looks.was_honest third in
    let one = c.all_lines.ensures.looks.content_stays second in
    let two = c.all_pallets.ensures.looks.content_stays third in
    let lines = c.as_slice-lines.ensures ∙ c.in_ok-ordered.ensures.looks.answers second in
    let pallets = c.as_slice-pallets.ensures ∙ c.in_ok-despatched.ensures.looks.answers third ∙ ap (λ t. (view supplier t).pallets) one in
    inr (unclean_seen supplier t (view supplier t).lines
    (subst (λ rows. PalletUnclean t rows (view supplier t).pallets) lines
    (subst (λ rows. PalletUnclean t c.as_slice-lines.result.now rows) pallets
    (subst (λ t. PalletUnclean t c.as_slice-lines.result.now c.as_slice-pallets.result.now) (two ∙ one) unclean))))

pub returns-in_err-text-clause-unclean : goal.returns-in_err-text-clause-unclean
returns-in_err-text-clause-unclean g c = λ honest going clean unclean.
    let fault = c.in_err-text.field-0.0 in
    let is : c.from_residual-in_err-text.result ≡ Err fault = search rules in
    let which : fault ≡ Unclean = cc (is, unclean) in
    let third = c.in_err-text.ensures.stays.was_honest honest in
    let second = c.all_pallets.ensures.looks.was_honest third in
    let stays = c.all_pallets.ensures.looks.content_stays third ∙ c.all_lines.ensures.looks.content_stays second in
    unclean_of g (goal.at.returns-in_err-text-clause-unclean g c).In_err-text honest
    (c.in_err-text.ensures.unclean honest (c.in_ok-despatched.ensures.fails.after ∙ c.in_ok-ordered.ensures.fails.after ∙ going)
    (ap are_clean stays ∙ clean) (ap Err which))

pub returns-in_err-text-clause-fails : goal.returns-in_err-text-clause-fails
returns-in_err-text-clause-fails g c =
    let fault = c.in_err-text.field-0.0 in
    let is : c.from_residual-in_err-text.result ≡ Err fault = search rules in
    fails_with _ _ _ _ _ _ _ _ fault c.from_residual-in_err-text.result
    (c.in_ok-despatched.ensures.fails.after ∙ c.in_ok-ordered.ensures.fails.after) is
    (λ cause honest. unclean_of g (goal.at.returns-in_err-text-clause-fails g c).In_err-text honest
    (cause honest)) c.in_err-text.ensures.fails

use Rattle.std.proofs.Common.{rules, ◌≡◌, ◌⊎◌, inl, inr, Err, [], ◌∷◌, ◌++◌, ◌+◌, drop, append_assoc, sym, subst, ap, ◌∙◌}
use Rattle.std.specs.List.{flat_map}
use Rattle.std.proofs.lemmas.List.{drop_more}
use Rattle.hub_tables.specs.State.{contents_of, receipts_of}
use Rattle.hub_acts.specs.HubLaw.StatusText.{pallet_text}
use Rattle.hub_acts.specs.HubTexts.Totals.{IsUnclean}
use Rattle.hub_transactions.specs.Status.{SeesPallet, PalletUnclean}
use Rattle.hub_transactions.proofs.Announced.{unclean_of_some}
use Rattle.hub_transactions.proofs.Reports.{has_at}
use Rattle.hub_transactions.proofs.Failing.{ends_in, none_broken}
use Rattle.hub_transactions.proofs.status.with_pallets.Given as given
use Rattle.hub_transactions.proofs.status.with_pallets.Goals as goal
use Rattle.hub_transactions.proofs.status.with_pallets.Goals.{In_err-whole}

pub loop-pallet-preserved : goal.loop-pallet-preserved
loop-pallet-preserved g c =
    let pallet = c.pallet-item.result in
    let rest = drop (c.loop-pallet.pallet-index + 1) c.args.pallets.now in
    let next = drop_more c.args.pallets.now c.loop-pallet.pallet-index pallet c.loop-pallet-test.true
    ∙ ap (λ one. one ∷ rest) (sym c.pallet-item.is) in
    let before = c.loop-pallet.invariant in
    record {
      stays = search rules;
      broken = search rules;
      text = λ honest state same sees.
          let second = c.receipt_rows_of.ensures.stays.was_honest honest in
          let first = c.contents_on.ensures.looks.was_honest second in
          let was = before.stays.content_stays first in
          let then = c.contents_on.ensures.looks.content_stays second ∙ was in
          let it = sees pallet (has_at c.args.pallets.now c.loop-pallet.pallet-index pallet rest next) in
          let contents = sym (c.as_slice-contents.ensures
          ∙ c.in_ok-announced.ensures.looks.answers second
          ∙ ap (λ t. contents_of t pallet.sscc) was ∙ it.contents) in
          let receipts = sym (c.as_slice-receipts.ensures
          ∙ c.in_ok-received.ensures.rows honest state (subst (λ t. SeesPallet state t pallet) (sym then) it)) in
          ap (λ xs. xs ++ flat_map (pallet_text state) rest) (c.in_ok-whole.ensures.text state same contents receipts)
          ∙ append_assoc c.loop-pallet.whole.items (pallet_text state pallet) (flat_map (pallet_text state) rest)
          ∙ ap (λ xs. c.loop-pallet.whole.items ++ flat_map (pallet_text state) xs) (sym next)
          ∙ before.text first state same sees;
    }

-- the pallet at which the report stops
unclean_pallet : (g : given.Over) (c : In_err-whole g)
    → IsUnclean c.args.lines.now c.as_slice-contents.result.now c.as_slice-receipts.result.now
    → g.S.Store.honest c.receipt_rows_of.new.store
    → PalletUnclean (g.S.Store.content c.args.store.now) c.args.lines.now c.args.pallets.now
unclean_pallet g c unclean honest =
    let t = g.S.Store.content c.args.store.now in
    let lines = c.args.lines.now in
    let pallets = c.args.pallets.now in
    let pallet = c.pallet-item.result in
    let i = c.loop-pallet.pallet-index in
    let rest = drop (i + 1) pallets in
    let next = drop_more pallets i pallet c.loop-pallet-test.true ∙ ap (λ one. one ∷ rest) (sym c.pallet-item.is) in
    let second = c.receipt_rows_of.ensures.stays.was_honest honest in
    let first = c.contents_on.ensures.looks.was_honest second in
    let was = c.loop-pallet.invariant.stays.content_stays first in
    let then = c.contents_on.ensures.looks.content_stays second ∙ was in
    let contents = c.as_slice-contents.ensures
    ∙ c.in_ok-announced.ensures.looks.answers second
    ∙ ap (λ t. contents_of t pallet.sscc) was in
    let rows = receipts_of t pallet.sscc in
    let received : (c.as_slice-receipts.result.now ≡ []) ⊎ (c.as_slice-receipts.result.now ≡ rows) =
    elim (c.in_ok-received.ensures.some honest) [
      | inl none ↦ inl (c.as_slice-receipts.ensures ∙ none)
      | inr all ↦ inr (c.as_slice-receipts.ensures ∙ all ∙ ap (λ t. receipts_of t pallet.sscc) then)
    ] in
    record {
      pallet = pallet;
      there = has_at pallets i pallet rest next;
      unclean =
          unclean_of_some lines (contents_of t pallet.sscc) c.as_slice-receipts.result.now rows received
          (subst (λ rows. IsUnclean lines rows c.as_slice-receipts.result.now) contents unclean);
    }

pub returns-in_err-whole-clause-unclean : goal.returns-in_err-whole-clause-unclean
returns-in_err-whole-clause-unclean g c = λ honest going clean unclean.
    unclean_pallet g (goal.at.returns-in_err-whole-clause-unclean g c).In_err-whole (c.in_err-whole.ensures.unclean search rules) honest

pub returns-in_err-whole-clause-fails : goal.returns-in_err-whole-clause-fails
returns-in_err-whole-clause-fails g c =
    let first = c.in_ok-announced.ensures.fails in
    let second = c.in_ok-received.ensures.fails in
    let fault = c.in_err-whole.field-0.0 in
    let is : c.from_residual-in_err-whole.result ≡ Err fault = search rules in
    let stays = c.loop-pallet.invariant.broken in
    ends_in _ _ _ _ _ c.from_residual-in_err-whole.result fault is (sym stays ∙ none_broken _ _ _ _ first)
    (second.after ∙ first.after ∙ stays)
    (elim c.in_err-whole.ensures.faults [
      | inl e ↦ inl e
      | inr e ↦ inr (e.0, unclean_pallet g (goal.at.returns-in_err-whole-clause-fails g c).In_err-whole e.1)
    ])

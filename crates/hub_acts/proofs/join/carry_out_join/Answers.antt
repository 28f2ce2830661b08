use Rattle.std.proofs.Common.{rules, ◌≡◌, refl, cond, sym, ap, subst, ◌∙◌, Ok, Err}
use Rattle.hub_parties.specs.declared.row.SupplierRow.{SupplierRow}
use Rattle.hub_register.specs.Joined.{joined_by}
use Rattle.hub_texts.specs.HubRules.JoinRules.{is_join, judge_join}
use Rattle.hub_texts.specs.HubRules.declared.verdict.Verdict.TheVariants.{Accept, Refuse}
use Rattle.hub_clean.specs.HubLaw.Mark.{Whole}
use Rattle.hub_clean.specs.HubLaw.Replies.{act_reply}
use Rattle.hub_clean.specs.HubLaw.Requests.{joined}
use Rattle.hub_clean.specs.HubLaw.Told.{told}
use Rattle.hub_acts.specs.Acts.{Carried, as_told}
use Rattle.hub_clean.proofs.Verdicts.{joined_clean}
use Rattle.hub_acts.proofs.CleanActs.{failed_stays}
use Rattle.hub_acts.proofs.Joins as joins
use Rattle.hub_clean.proofs.Joined as joining
use Rattle.hub_acts.proofs.join.carry_out_join.Goals as goal

pub add_supplier-requires-clause-rows : goal.add_supplier-requires-clause-rows
add_supplier-requires-clause-rows g c =
    let register = c.args.register.now in
    let row = c.row-row.result.now in
    let accepted : judge_join register row ≡ Accept c.as_slice.result.now =
    ap (judge_join register) c.row-row.ensures.value ∙ sym c.requires.judged ∙ c.in-Accept.is ∙ ap Accept (sym c.as_slice.ensures) in
    joining.changes_are register row c.as_slice.result.now accepted

pub add_supplier-requires-clause-takes : goal.add_supplier-requires-clause-takes
add_supplier-requires-clause-takes g c =
    let register = c.args.register.now in
    let row = c.row-row.result.now in
    let accepted : judge_join register row ≡ Accept c.as_slice.result.now =
    ap (judge_join register) c.row-row.ensures.value ∙ sym c.requires.judged ∙ c.in-Accept.is ∙ ap Accept (sym c.as_slice.ensures) in
    joins.takes register row c.as_slice.result.now accepted c.requires.right
    (ap is_join c.row-row.ensures.value ∙ c.row-row.ensures.right)

pub add_supplier-requires-clause-goes : goal.add_supplier-requires-clause-goes
add_supplier-requires-clause-goes g c =
    let register = c.args.register.now in
    let row = c.row-row.result.now in
    let accepted : judge_join register row ≡ Accept c.as_slice.result.now =
    ap (judge_join register) c.row-row.ensures.value ∙ sym c.requires.judged ∙ c.in-Accept.is ∙ ap Accept (sym c.as_slice.ensures) in
    joins.goes_back register row c.as_slice.result.now accepted

pub returns-in_err-add_supplier-clause-carried : goal.returns-in_err-add_supplier-clause-carried
returns-in_err-add_supplier-clause-carried g c = λ here of_tables.
    let register = c.args.register.now in
    let row = c.row-row.result.now in
    let changes = c.as_slice.result.now in
    let accepted : judge_join register row ≡ Accept changes =
    ap (judge_join register) c.row-row.ensures.value ∙ sym c.requires.judged ∙ c.in-Accept.is ∙ ap Accept (sym c.as_slice.ensures) in
    let is : c.from_residual.result ≡ Err c.in_err-add_supplier.field-0.0 = search rules in
    subst (λ (row : SupplierRow). Carried g.S.Store c.args.store.now c.add_supplier.new.store
    (joined register Whole row) as_told c.from_residual.result) c.row-row.ensures.value
    (joins.accepted_failed g.S.Store c.args.store.now c.add_supplier.new.store register row
    (ap is_join c.row-row.ensures.value ∙ c.row-row.ensures.right) changes accepted
    here of_tables _ c.in_err-add_supplier.field-0.0 _ is c.in_err-add_supplier.ensures.carried)

pub returns-clause-carried : goal.returns-clause-carried
returns-clause-carried g c = λ here of_tables.
    let register = c.args.register.now in
    let row = c.row-row.result.now in
    let changes = c.as_slice.result.now in
    let accepted : judge_join register row ≡ Accept changes =
    ap (judge_join register) c.row-row.ensures.value ∙ sym c.requires.judged ∙ c.in-Accept.is ∙ ap Accept (sym c.as_slice.ensures) in
    let says = c.requires.says
    ∙ ap act_reply (ap told (c.in-Accept.is ∙ ap Accept (sym c.as_slice.ensures))) in
    subst (λ (row : SupplierRow). Carried g.S.Store c.args.store.now c.add_supplier.new.store
    (joined register Whole row) as_told (Ok c.args.reply)) c.row-row.ensures.value
    (joins.accepted_carried g.S.Store c.args.store.now c.add_supplier.new.store register row
    (ap is_join c.row-row.ensures.value ∙ c.row-row.ensures.right) changes accepted here of_tables c.args.reply _ says
    c.in_ok-add_supplier.ensures.carried)

pub returns-clause-same : goal.returns-clause-same
returns-clause-same g c = λ honest here of_tables.
    let register = c.args.register.now in
    let row = c.row-row.result.now in
    let changes = c.as_slice.result.now in
    let accepted : judge_join register row ≡ Accept changes =
    ap (judge_join register) c.row-row.ensures.value ∙ sym c.requires.judged ∙ c.in-Accept.is ∙ ap Accept (sym c.as_slice.ensures) in
    c.in_ok-add_supplier.ensures.taken
    ∙ joins.accepted_same g.S.Store c.args.store.now c.add_supplier.new.store register row
    (ap is_join c.row-row.ensures.value ∙ c.row-row.ensures.right) changes accepted here of_tables _
    c.in_ok-add_supplier.ensures.carried honest

pub returns-clause-told : goal.returns-clause-told
returns-clause-told g c =
    let register = c.args.register.now in
    let verdict : judge_join register c.args.join.now ≡ Accept c.in-Accept.changes = sym c.requires.judged ∙ c.in-Accept.is in
    joins.told_of register c.args.join.now c.args.reply c.row-row.ensures.right (Accept c.in-Accept.changes) verdict
    (c.requires.says ∙ ap act_reply (ap told c.in-Accept.is))

pub returns-clause-moves : goal.returns-clause-moves
returns-clause-moves g c =
    let register = c.args.register.now in
    let verdict : judge_join register c.args.join.now ≡ Accept c.in-Accept.changes = sym c.requires.judged ∙ c.in-Accept.is in
    joins.moves_in register c.args.join.now c.args.reply c.row-row.ensures.right c.in-Accept.changes c.add_supplier.new.register verdict
    (c.requires.says ∙ ap act_reply (ap told c.in-Accept.is))
    (c.in_ok-add_supplier.ensures.taken ∙ ap (λ row. joined_by row register) c.row-row.ensures.value)

pub returns-clause-taken : goal.returns-clause-taken
returns-clause-taken g c =
    let register = c.args.register.now in
    let row = c.args.join.now in
    let verdict : judge_join register row ≡ Accept c.in-Accept.changes = sym c.requires.judged ∙ c.in-Accept.is in
    c.in_ok-add_supplier.ensures.taken
    ∙ ap (λ row. joined_by row register) c.row-row.ensures.value
    ∙ sym (ap (λ v. cond v (joined_by row register) register)
    (joins.both_joins register row (Accept c.in-Accept.changes) verdict c.row-row.ensures.right))

pub returns-clause-fails : goal.returns-clause-fails
returns-clause-fails g c =
    joins.accepted_fails g.S.Store.plain (g.S.Store.broken c.args.store.now) (g.S.Store.broken c.add_supplier.new.store) _ c.args.reply _
    c.in_ok-add_supplier.ensures.fails

pub returns-in-Refuse-clause-carried : goal.returns-in-Refuse-clause-carried
returns-in-Refuse-clause-carried g c = λ here of_tables.
    let register = c.args.register.now in
    let row = c.args.join.now in
    joins.refused_carried g.S.Store
    c.args.store.now c.args.store.now register row c.row-row.ensures.right
    (Refuse c.in-Refuse.field-0) c.args.reply (sym c.requires.judged ∙ c.in-Refuse.is) (λ t. refl)
    (c.requires.says ∙ ap act_reply (ap told c.in-Refuse.is))

pub returns-in-Refuse-clause-told : goal.returns-in-Refuse-clause-told
returns-in-Refuse-clause-told g c =
    let register = c.args.register.now in
    let verdict : judge_join register c.args.join.now ≡ Refuse c.in-Refuse.field-0 = sym c.requires.judged ∙ c.in-Refuse.is in
    joins.told_of register c.args.join.now c.args.reply c.row-row.ensures.right (Refuse c.in-Refuse.field-0) verdict
    (c.requires.says ∙ ap act_reply (ap told c.in-Refuse.is))

pub returns-in-Refuse-clause-moves : goal.returns-in-Refuse-clause-moves
returns-in-Refuse-clause-moves g c =
    joins.moves_not c.args.register.now c.args.join.now c.args.reply c.in-Refuse.field-0
    (c.requires.says ∙ ap act_reply (ap told c.in-Refuse.is))

pub returns-in-Refuse-clause-taken : goal.returns-in-Refuse-clause-taken
returns-in-Refuse-clause-taken g c =
    let register = c.args.register.now in
    let row = c.args.join.now in
    let verdict : judge_join register row ≡ Refuse c.in-Refuse.field-0 = sym c.requires.judged ∙ c.in-Refuse.is in
    sym (ap (λ v. cond v (joined_by row register) register)
    (joins.both_joins register row (Refuse c.in-Refuse.field-0) verdict c.row-row.ensures.right))

pub returns-in-Refuse-clause-fails : goal.returns-in-Refuse-clause-fails
returns-in-Refuse-clause-fails g c =
    let register = c.args.register.now in
    let row = c.args.join.now in
    let verdict : judge_join register row ≡ Refuse c.in-Refuse.field-0 = sym c.requires.judged ∙ c.in-Refuse.is in
    let says = c.requires.says ∙ ap act_reply (ap told c.in-Refuse.is) in
    joins.refused_fails g.S.Store.plain (g.S.Store.broken c.args.store.now) (g.S.Store.broken c.args.store.now) _ c.args.reply
    (λ t. joins.joined_as register row (Refuse c.in-Refuse.field-0) verdict c.row-row.ensures.right t ∙ (λ i. (sym says i, t)))

pub returns-clause-clean : goal.returns-clause-clean
returns-clause-clean g c = λ here of_tables.
    let register = c.args.register.now in
    let row = c.row-row.result.now in
    let t = g.S.Store.content c.args.store.now in
    let changes = c.as_slice.result.now in
    let accepted : judge_join register row ≡ Accept changes =
    ap (judge_join register) c.row-row.ensures.value ∙ sym c.requires.judged ∙ c.in-Accept.is ∙ ap Accept (sym c.as_slice.ensures) in
    let may = ap is_join c.row-row.ensures.value ∙ c.row-row.ensures.right in
    let fit = joins.fits g.S.Store c.args.store.now c.add_supplier.new.store register row may
    changes accepted here of_tables in
    record {
      never = λ honest none clean is. cc;
      rows = λ honest clean.
          (c.in_ok-add_supplier.ensures.clean fit (joined_clean register row t changes accepted may clean)).rows honest clean;
    }

pub returns-in_err-add_supplier-clause-clean : goal.returns-in_err-add_supplier-clause-clean
returns-in_err-add_supplier-clause-clean g c = λ here of_tables.
    let register = c.args.register.now in
    let row = c.row-row.result.now in
    let t = g.S.Store.content c.args.store.now in
    let changes = c.as_slice.result.now in
    let accepted : judge_join register row ≡ Accept changes =
    ap (judge_join register) c.row-row.ensures.value ∙ sym c.requires.judged ∙ c.in-Accept.is ∙ ap Accept (sym c.as_slice.ensures) in
    let may = ap is_join c.row-row.ensures.value ∙ c.row-row.ensures.right in
    let fit = joins.fits g.S.Store c.args.store.now c.add_supplier.new.store register row may
    changes accepted here of_tables in
    let fault = c.in_err-add_supplier.field-0.0 in
    let is : c.from_residual.result ≡ Err fault = search rules in
    failed_stays g.S.Store c.args.store.now c.add_supplier.new.store ⊥ (λ no. no) fault
    (λ honest none clean.
    (c.in_err-add_supplier.ensures.clean fit (joined_clean register row t changes accepted may clean)).never honest none clean)
    c.from_residual.result is c.in_err-add_supplier.ensures.unharmed.same

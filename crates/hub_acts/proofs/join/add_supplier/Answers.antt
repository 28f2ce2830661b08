use Rattle.std.proofs.Common.{◌≡◌, inl, inr, sym, ap, subst, ◌∙◌}
use Rattle.std.proofs.lemmas.Bool.{true≢false}
use Rattle.hub_parties.specs.Rows.{IsRegister}
use Rattle.hub_register.specs.Joined.{joined_by, left_by}
use Rattle.hub_store.specs.Clean.{are_clean}
use Rattle.hub_clean.proofs.Verdicts.{row_there}
use Rattle.hub_acts.proofs.join.add_supplier.Goals as goal

-- it leaves as it came
pub leave-requires : goal.leave-requires
leave-requires g c =
    let register = c.args.register.now in
    let row = c.args.row.now in
    let is : c.join.new.self ≡ joined_by row register = c.in_ok-join.ensures.ok ∙ ap (λ row. joined_by row register) c.in_ok-copy.ensures in
    subst IsRegister (sym (ap (left_by row.gln) is ∙ c.requires.goes)) c.requires.right

pub returns-in-Err-clause-clean : goal.returns-in-Err-clause-clean
returns-in-Err-clause-clean g c = λ fit fine. record {
  never = λ honest none clean is.
      let places = row_there c.args.row.now c.args.changes.now (g.S.Store.content c.args.store.now) c.requires.rows in
      elim (c.in-Err.ensures.commits.unclean honest none is fit places) [
        | inl e ↦ true≢false (sym clean ∙ e)
        | inr e ↦ true≢false (sym fine ∙ e)
      ];
  rows = λ honest clean. ap are_clean (c.in-Err.ensures.commits.kept honest) ∙ clean;
}

use Rattle.std.proofs.Common.{◌≡◌, ◌∷◌, ◌∙◌, List, sym, ap, subst, length, add-one, ◌+◌}
use Rattle.std.specs.Vec.Iter.{into_iter_items}
use Rattle.hub_tables.specs.Change.{apply, apply_all}
use Rattle.hub_tables.specs.Sets.{Fit}
use Rattle.hub_tables.specs.declared.change.Change.{Change}
use Rattle.trial_lists.specs.Lists.{tables_in, Room}
use Rattle.hub_tables.proofs.Back.{fit_before}
use Rattle.trial_lists.proofs.lists.apply_each.Goals as goal

pub loop-change-preserved : goal.loop-change-preserved
loop-change-preserved c =
    let later = into_iter_items c.next.new.self in
    let t = tables_in c.loop-change.lists in
    let end = apply_all c.args.changes.items (tables_in c.args.lists.now) in
    let cut = (c.in-Some.ensures.steps).0 in
    let room : Room (length later + 1) c.loop-change.lists = rw add-one (subst (λ (cs : List Change). Room
    (length cs) c.loop-change.lists) cut c.loop-change.invariant.room) in
    record {
      kept = c.apply_one.ensures.kept;
      left = λ fit.
          let before = c.loop-change.invariant.left fit in
          let was : apply_all (c.in-Some.change ∷ later) t ≡ end = sym (ap (λ cs. apply_all cs t) cut) ∙ before.1 in
          let fits = (subst (λ (cs : List Change). Fit cs t) cut before.0).1 in
          let now = c.apply_one.ensures.tables (fit_before later (apply c.in-Some.change t) fits) in (
            subst (Fit later) (sym now) fits,
            ap (apply_all later) now ∙ was,
          );
      room = c.apply_one.ensures.room (length later) room;
    }

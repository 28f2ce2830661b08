use Rattle.std.proofs.Common.{◌≡◌, ℕ, List, Bool, true, false, cond, Option, Some, refl, ap, ◌∙◌}
use Rattle.std.specs.BTreeMap.{get}
use Rattle.std.specs.Cmp.Lexicographic.{slice_cmp}
use Rattle.std.specs.Option.{unwrap_or}
use Rattle.std.specs.Ordering.{nat_cmp}
use Rattle.std.proofs.lemmas.Map.Text.{is_eq-slice_cmp}
use Rattle.hub_sql.proofs.marks.set_mark.Goals as goal

either : (b : Bool) (mark : ℕ) (old : Option ℕ) → unwrap_or (cond b (Some mark) old) 0 ≡ cond b mark (unwrap_or old 0)
either true mark old = refl
either false mark old = refl

pub returns-clause-set : goal.returns-clause-set
returns-clause-set c = λ (other : List ℕ).
    let old : Option ℕ = get (slice_cmp nat_cmp) c.args.marks.now other in
    ap (λ o. unwrap_or o 0) (c.in_ok-insert.ensures.updates.0 other)
    ∙ ap (λ v. unwrap_or (cond v (Some c.args.mark) old) 0) (is_eq-slice_cmp c.args.supplier.now other)
    ∙ either _ c.args.mark old

use Rattle.std.proofs.Common.{◌≡◌, ℕ, List, Option, Some, cond, sym, ◌∙◌, ap, subst}
use Rattle.std.specs.BTreeMap.{get}
use Rattle.std.specs.Cmp.Lexicographic.{slice_cmp}
use Rattle.std.specs.Ordering.{nat_cmp}
use Rattle.std.proofs.lemmas.Map.Text.{is_eq-slice_cmp}
use Rattle.hub_tables.specs.Rows.{same}
use Rattle.hub_judges.specs.Totals as spec
use Rattle.hub_judges.specs.declared.totals.Total.{Total}
use Rattle.hub_judges.proofs.Summed.{Fits, fits, totals_next}
use Rattle.hub_judges.proofs.totals.totals_of.Goals as goal

pub with_line-total-requires : goal.with_line-total-requires
with_line-total-requires c =
    let line = c.line-item.result in
    let old : Option Total = get (slice_cmp nat_cmp) c.loop-line.totals line.gtin in
    let fit = subst (λ before. Fits before line) (sym c.total_so_far-before.ensures)
    (fits c.args.lines.now c.loop-line.line-index line c.loop-line-test.true c.line-item.is old (c.requires line.gtin)
    (c.loop-line.invariant line.gtin)) in
    record { accepted = fit.accepted; returned = fit.returned; destroyed = fit.destroyed }

pub loop-line-preserved : goal.loop-line-preserved
loop-line-preserved c =
    let line = c.line-item.result in
    let sum = c.with_line-total.result in
    let old : List ℕ → Option Total = get (slice_cmp nat_cmp) c.loop-line.totals in
    let new : List ℕ → Option Total = get (slice_cmp nat_cmp) c.insert.new.self in
    let becomes : (article : List ℕ) → new article ≡ cond (same line.gtin article) (Some sum) (old article) =
    λ article. c.in_ok-insert.ensures.updates.0 article ∙ ap (λ v. cond v (Some sum) (old article)) (is_eq-slice_cmp line.gtin article) in
    totals_next c.args.lines.now c.loop-line.line-index line c.loop-line-test.true c.line-item.is old new sum becomes
    (c.with_line-total.ensures ∙ ap (λ before. spec.with_line before line) c.total_so_far-before.ensures)
    c.loop-line.invariant

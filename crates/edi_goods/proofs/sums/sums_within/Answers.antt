use Rattle.std.proofs.Common.{◌≡◌, ℕ, ◌+◌, List, Option, Some, cond, ap, ◌∙◌, arith}
use Rattle.std.specs.BTreeMap.{get}
use Rattle.std.specs.Cmp.Lexicographic.{slice_cmp}
use Rattle.std.specs.Option.{unwrap_or}
use Rattle.std.specs.Ordering.{nat_cmp}
use Rattle.std.specs.Str.{bytes_eq}
use Rattle.std.proofs.lemmas.Map.Text.{is_eq-slice_cmp}
use Rattle.std.proofs.lemmas.List.{drop_all}
use Rattle.edi_goods.specs.Sums as spec
use Rattle.edi_goods.proofs.SumsSoFar.{too_great, all_within, part_next, bound_next}
use Rattle.edi_goods.proofs.sums.sums_within.Goals as goal

pub returns-then-sum-gt-GREATEST-clause-ok : goal.returns-then-sum-gt-GREATEST-clause-ok
returns-then-sum-gt-GREATEST-clause-ok c =
    too_great (λ article. unwrap_or (get (slice_cmp nat_cmp) c.loop-amount.sums article) 0) c.args.amounts.now
    c.loop-amount.amount-index c.amount-item.result c.loop-amount-test.true c.amount-item.is c.loop-amount.invariant.sums
    (omega (arith, c.if-sum-gt-GREATEST.true, c.with_more-sum.ensures, c.sum_so_far-before.ensures))

pub loop-amount-preserved : goal.loop-amount-preserved
loop-amount-preserved c =
    let gtin = c.amount-item.result.gtin in
    let old : List ℕ → Option ℕ = get (slice_cmp nat_cmp) c.loop-amount.sums in
    let new : List ℕ → Option ℕ = get (slice_cmp nat_cmp) c.insert.new.self in
    let sum = c.with_more-sum.result in
    let becomes : (article : List ℕ) → new article ≡ cond (bytes_eq gtin article) (Some sum) (old article) =
    λ article. c.in_ok-insert.ensures.updates.0 article ∙ ap (λ same. cond same (Some sum) (old article)) (is_eq-slice_cmp gtin article) in
    record {
      sums =
          part_next old new c.args.amounts.now c.loop-amount.amount-index c.amount-item.result sum c.loop-amount-test.true
          c.amount-item.is becomes
          (c.with_more-sum.ensures ∙ ap (λ before. before + c.amount-item.result.quantity) c.sum_so_far-before.ensures)
          c.loop-amount.invariant.sums;
      bound = bound_next old new gtin sum becomes (omega (arith, c.if-sum-gt-GREATEST.false)) c.loop-amount.invariant.bound;
    }

pub returns-clause-ok : goal.returns-clause-ok
returns-clause-ok c =
    let so_far : List ℕ → ℕ = λ article. unwrap_or (get (slice_cmp nat_cmp) c.loop-amount.sums article) 0 in
    all_within so_far c.args.amounts.now (λ article. c.loop-amount.invariant.sums article
    ∙ ap (λ rest. so_far article + spec.sum_of article rest)
    (drop_all c.loop-amount.amount-index c.args.amounts.now (omega (arith, c.loop-amount-test.false))))
    c.loop-amount.invariant.bound

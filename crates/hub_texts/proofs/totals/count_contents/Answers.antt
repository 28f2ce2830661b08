use Rattle.std.proofs.Common.{◌∙◌, arith}
use Rattle.std.proofs.lemmas.Result.{err_from_is_err_and}
use Rattle.hub_texts.proofs.Bounds.{unclean_content}
use Rattle.hub_texts.proofs.Tables.{contents_counted}
use Rattle.hub_texts.proofs.totals.count_contents.Goals as goal

pub loop-left-preserved : goal.loop-left-preserved
loop-left-preserved c = record {
  within = omega arith;
  counted =
      c.in_ok-count_content.ensures.ok
      ∙ contents_counted c.args.lines.now c.args.contents.now c.args.receipts.now c.loop-left.left
      c.index-contents-left.result c.loop-left.table.entries c.loop-left-test.true c.loop-left.invariant.within
      c.index-contents-left.is c.loop-left.invariant.counted;
}

pub returns-in_err-count_content-clause-unclean : goal.returns-in_err-count_content-clause-unclean
returns-in_err-count_content-clause-unclean c = λ h.
    let left = err_from_is_err_and c.from_residual.result c.from_residual.ensures.1 in
    unclean_content c.args.lines.now c.args.contents.now c.args.receipts.now c.loop-left.left c.index-contents-left.result
    c.loop-left.table.entries c.loop-left-test.true c.loop-left.invariant.within c.index-contents-left.is
    c.loop-left.invariant.counted
    (c.in_err-count_content.ensures.unclean (cc (left.1, left.2)))

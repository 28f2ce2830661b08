use Rattle.std.proofs.Common.{◌∙◌, [], arith}
use Rattle.std.proofs.lemmas.Result.{err_from_is_err_and}
use Rattle.hub_texts.proofs.Bounds.{unclean_receipt}
use Rattle.hub_texts.proofs.Tables.{receipts_counted}
use Rattle.hub_texts.proofs.totals.count_receipts.Goals as goal

pub loop-left-preserved : goal.loop-left-preserved
loop-left-preserved c = record {
  within = omega arith;
  counted = λ lines.
      c.in_ok-count_receipt.ensures.ok
      ∙ receipts_counted lines c.args.receipts.now c.loop-left.left c.index-receipts-left.result c.loop-left.table.entries
      c.loop-left-test.true c.loop-left.invariant.within c.index-receipts-left.is (c.loop-left.invariant.counted lines);
}

pub returns-in_err-count_receipt-clause-unclean : goal.returns-in_err-count_receipt-clause-unclean
returns-in_err-count_receipt-clause-unclean c = λ h.
    let left = err_from_is_err_and c.from_residual.result c.from_residual.ensures.1 in
    unclean_receipt [] c.args.receipts.now c.loop-left.left c.index-receipts-left.result c.loop-left.table.entries
    c.loop-left-test.true c.loop-left.invariant.within c.index-receipts-left.is (c.loop-left.invariant.counted [])
    (c.in_err-count_receipt.ensures.unclean (cc (left.1, left.2)))

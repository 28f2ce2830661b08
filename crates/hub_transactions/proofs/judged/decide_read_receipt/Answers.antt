use Rattle.hub_transactions.proofs.judged.decide_read_receipt.Goals as goal

pub judge_receipt-requires : goal.judge_receipt-requires
judge_receipt-requires g c = c.judges_are_given_what_they_ask.ensures.sums c.args.message.now c.args.receipt.now c.requires

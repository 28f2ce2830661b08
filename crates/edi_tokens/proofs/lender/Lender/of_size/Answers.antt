use Rattle.edi_tokens.proofs.Lending.{fed_of_size}
use Rattle.edi_tokens.proofs.lender.Lender.of_size.Goals as goal

pub returns-clause-fed : goal.returns-clause-fed
returns-clause-fed c = λ left.
    fed_of_size c.args.size c.min.result c.args.front.now left c.in_ok-of.field-0 c.in_ok-new.field-0 c.tail_within.result c.requires
    c.min.ensures c.in_ok-new.ensures c.in_ok-of.ensures c.tail_within.ensures.last c.tail_within.ensures.more

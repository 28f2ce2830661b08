use Rattle.edi_tokens.proofs.Lending.{at_end, too_long, some_at_end, some_too_long}
use Rattle.edi_tokens.proofs.lender.Lender.refill.Goals as goal

pub returns-in-End-clause-told : goal.returns-in-End-clause-told
returns-in-End-clause-told g c = λ all lent fed.
    (fed, at_end (g.R.Source.remaining c.args.reader.now) all lent c.args.self.now fed c.requires.piece c.in-End.is)

pub returns-in-Long-clause-told : goal.returns-in-Long-clause-told
returns-in-Long-clause-told g c = λ all lent fed. λ _.
    too_long (g.R.Source.remaining c.args.reader.now) all lent c.args.self.now fed c.requires.piece c.in-Long.is

pub returns-in-End-clause-some : goal.returns-in-End-clause-some
returns-in-End-clause-some g c = λ lent came. some_at_end lent c.args.self.now came c.requires.piece c.in-End.is

pub returns-in-Long-clause-some : goal.returns-in-Long-clause-some
returns-in-Long-clause-some g c = λ lent came. some_too_long lent c.args.self.now came c.requires.piece c.in-Long.is

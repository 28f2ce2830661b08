use Rattle.std.proofs.lemmas.Grind.{common_steps}
use Rattle.std.proofs.Common.{rules, arith}
use Rattle.edi_base.proofs.Taken.{takes_more}
use Rattle.edi_base.proofs.source.read_to_limit.Goals as goal

pub returns-in_err-count-clause-front : goal.returns-in_err-count-clause-front
returns-in_err-count-clause-front g c = takes_more _ _ _ _ _ _ c.loop-read.invariant.bytes c.in_err-count.ensures.front search rules

pub loop-read-preserved : goal.loop-read-preserved
loop-read-preserved c = grind (arith, common_steps)

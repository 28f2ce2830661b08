use Rattle.std.proofs.lemmas.Grind.{common_steps}
use Rattle.std.proofs.Common.{arith}
use Rattle.edi_base.proofs.Numbers.{past_greatest}
use Rattle.edi_base.proofs.limits.value_of.Goals as goal

pub returns-then-number-gt-GREATEST : goal.returns-then-number-gt-GREATEST
returns-then-number-gt-GREATEST c =
    past_greatest c.loop-digit.number c.args.digits.now c.loop-digit.digit-index 0 c.loop-digit.invariant.value
    c.loop-digit-test.true (omega (arith, c.if-number-gt-GREATEST.true, c.saturating_sub.ensures))

pub loop-digit-preserved : goal.loop-digit-preserved
loop-digit-preserved c = grind (arith, common_steps)

use Rattle.std.proofs.Common.{◌∙◌, sym, arith}
use Rattle.gs1_ids.proofs.CheckDigits.{part_more, digits_left}
use Rattle.gs1_ids.proofs.digits.check_digit.Goals as goal

pub loop-part-preserved : goal.loop-part-preserved
loop-part-preserved c =
    let steps = c.in-Some.ensures.steps in
    let before = c.loop-part.invariant in
    record {
      size = steps.0 ∙ before.size;
      small = omega arith;
      so_far = part_more _ _ _ c.loop-part.sum _ _ steps.1.0 (rw (sym before.size) steps.1.1) c.weighted_sum.ensures.value before.so_far;
      ascii = digits_left _ _ _ steps.1.0 before.ascii;
    }

use Rattle.std.proofs.Common.{◌≡◌, ◌≤◌, ◌+◌, ◌-◌, ◌*◌, drop, length}
use Rattle.gs1_ids.specs.Digits.{weight, weighted_sum}
use Rattle.gs1_ids.proofs.digits.weighted_sum.Given as goal

abbrev pub invariant-loop-digit : goal.invariant-loop-digit
invariant-loop-digit l = record {
  small : l.threes + l.ones ≤ 9 * l.digit-index;
  so_far : l.threes * weight (length l.digits - l.digit-index) + l.ones * weight (length l.digits - l.digit-index + 1)
      + weighted_sum (drop l.digit-index l.digits) ≡ weighted_sum l.digits;
}

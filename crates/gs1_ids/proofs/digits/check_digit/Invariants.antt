use Rattle.std.proofs.Common.{◌≡◌, ◌<◌, ◌+◌, ◌%◌, All}
use Rattle.std.specs.Char.{IsAsciiDigit}
use Rattle.std.specs.Slice.Iter.{rchunks_rest, rchunks_size}
use Rattle.gs1_ids.specs.Digits.{weighted_sum}
use Rattle.gs1_ids.proofs.digits.check_digit.Given as goal

abbrev pub invariant-loop-part : goal.invariant-loop-part
invariant-loop-part l = record {
  size : rchunks_size l.part-iterator ≡ 18;
  small : l.sum < 10;
  so_far : (l.sum + weighted_sum (rchunks_rest l.part-iterator)) % 10 ≡ weighted_sum l.digits % 10;
  ascii : All IsAsciiDigit (rchunks_rest l.part-iterator);
}

use Rattle.std.proofs.Common.{◌≡◌, ℕ, nat_eq, map, take, false}
use Rattle.edi_base.specs.Seen.{comes_among, has_number_twice}
use Rattle.edi_base.proofs.Twice.{number_itself}
use Rattle.edi_base.proofs.seen.number_twice.Given as goal

-- no number has occurred twice, and the numbers so far are in the set
abbrev pub invariant-loop-number : goal.invariant-loop-number
invariant-loop-number l = record {
  once : has_number_twice (take l.number-index l.numbers) ≡ false;
  seen : (other : ℕ) → comes_among nat_eq other (map number_itself l.seen.keys) ≡ comes_among nat_eq other (take l.number-index l.numbers);
}

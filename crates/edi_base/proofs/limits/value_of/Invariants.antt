use Rattle.std.proofs.Common.{◌≡◌, ◌≤◌, fold, drop}
use Rattle.edi_base.specs.Limits.{number_of, with_digit, greatest}
use Rattle.edi_base.proofs.limits.value_of.Given as goal

-- the number so far, with the digits that follow
abbrev pub invariant-loop-digit : goal.invariant-loop-digit
invariant-loop-digit l = record {
  value : number_of l.digits ≡ fold with_digit l.number (drop l.digit-index l.digits);
  bound : l.number ≤ greatest;
}

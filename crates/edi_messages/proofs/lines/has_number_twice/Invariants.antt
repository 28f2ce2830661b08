use Rattle.std.proofs.Common.{◌≡◌, ◌++◌, map, drop}
use Rattle.edi_messages.specs.Lines.{number_or_zero}
use Rattle.edi_messages.proofs.lines.has_number_twice.Given as goal

-- the numbers are those so far and those of the rest
abbrev pub invariant-loop-item : goal.invariant-loop-item
invariant-loop-item l = map number_or_zero l.items ≡ l.numbers.items ++ map number_or_zero (drop l.item-index l.items)

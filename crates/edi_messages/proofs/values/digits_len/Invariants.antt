use Rattle.std.proofs.Common.{◌≡◌, ◌+◌, drop}
use Rattle.std.specs.List.{prefix_len}
use Rattle.edi_base.specs.Limits.{is_digit}
use Rattle.edi_messages.proofs.values.digits_len.Given as goal

-- only digits so far
abbrev pub invariant-loop-index : goal.invariant-loop-index
invariant-loop-index l = prefix_len is_digit l.bytes ≡ l.index + prefix_len is_digit (drop l.index l.bytes)

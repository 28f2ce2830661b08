use Rattle.std.proofs.Common.{◌≡◌, ◌++◌, drop}
use Rattle.edi_goods.specs.Receipt.{amounts}
use Rattle.edi_goods.proofs.received.amounts.Given as goal

-- the amounts are those so far and those of the rest
abbrev pub invariant-loop-line : goal.invariant-loop-line
invariant-loop-line l = amounts l.kind l.lines ≡ l.amounts.items ++ amounts l.kind (drop l.line-index l.lines)

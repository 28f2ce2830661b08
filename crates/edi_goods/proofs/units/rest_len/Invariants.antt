use Rattle.std.proofs.Common.{◌≡◌, ◌+◌, drop, not}
use Rattle.std.specs.List.{prefix_len}
use Rattle.edi_goods.specs.Units.{ends_unit}
use Rattle.edi_goods.proofs.units.rest_len.Given as goal

-- no segment passed so far ends the unit
abbrev pub invariant-loop-index : goal.invariant-loop-index
invariant-loop-index l =
    prefix_len (λ segment. not (ends_unit segment)) l.segments
    ≡ l.index + prefix_len (λ segment. not (ends_unit segment)) (drop l.index l.segments)

use Rattle.std.proofs.Common.{◌≡◌, ◌+◌, drop, not}
use Rattle.std.specs.List.{prefix_len}
use Rattle.edi_messages.specs.Parts.{is_cps}
use Rattle.edi_goods.proofs.units.outside_len.Given as goal

-- no CPS so far
abbrev pub invariant-loop-index : goal.invariant-loop-index
invariant-loop-index l =
    prefix_len (λ segment. not (is_cps segment)) l.message
    ≡ l.index + prefix_len (λ segment. not (is_cps segment)) (drop l.index l.message)

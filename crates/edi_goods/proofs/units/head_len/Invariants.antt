use Rattle.std.proofs.Common.{◌≡◌, ◌+◌, drop, not}
use Rattle.std.specs.List.{prefix_len}
use Rattle.edi_messages.specs.Parts.{is_lin}
use Rattle.edi_goods.proofs.units.head_len.Given as goal

-- no LIN so far
abbrev pub invariant-loop-index : goal.invariant-loop-index
invariant-loop-index l =
    prefix_len (λ segment. not (is_lin segment)) l.unit
    ≡ l.index + prefix_len (λ segment. not (is_lin segment)) (drop l.index l.unit)

use Rattle.std.proofs.Common.{◌≡◌, ◌+◌, drop, not}
use Rattle.std.specs.List.{prefix_len}
use Rattle.edi_messages.specs.Parts.{ends_part}
use Rattle.edi_messages.proofs.parts.part_len.Given as goal

-- no segment passed so far ends the part
abbrev pub invariant-loop-index : goal.invariant-loop-index
invariant-loop-index l =
    prefix_len (λ segment. not (ends_part segment)) l.segments
    ≡ l.index + prefix_len (λ segment. not (ends_part segment)) (drop l.index l.segments)

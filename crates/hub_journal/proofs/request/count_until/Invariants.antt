use Rattle.std.proofs.Common.{◌≡◌, ◌+◌, ◌==◌, drop, not}
use Rattle.std.specs.List.{prefix_len}
use Rattle.hub_journal.proofs.request.count_until.Given as goal

abbrev pub invariant-loop-index : goal.invariant-loop-index
invariant-loop-index l =
    prefix_len (λ byte. not (byte == l.end)) l.bytes ≡ l.index + prefix_len (λ byte. not (byte == l.end)) (drop l.index l.bytes)

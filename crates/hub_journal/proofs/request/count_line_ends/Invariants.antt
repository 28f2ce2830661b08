use Rattle.std.proofs.Common.{◌≡◌, ◌+◌, drop}
use Rattle.std.specs.List.{prefix_len}
use Rattle.hub_journal.specs.Request.{ends_line}
use Rattle.hub_journal.proofs.request.count_line_ends.Given as goal

abbrev pub invariant-loop-index : goal.invariant-loop-index
invariant-loop-index l = prefix_len ends_line l.bytes ≡ l.index + prefix_len ends_line (drop l.index l.bytes)

use Rattle.std.proofs.Common.{◌≡◌, ◌+◌, drop}
use Rattle.edi_places.specs.Groups.{before_wrong}
use Rattle.edi_places.proofs.groups.before_wrong.Given as goal

-- the condition holds of each line group so far
abbrev pub invariant-loop-index : goal.invariant-loop-index
invariant-loop-index l =
    before_wrong l.condition l.order l.segments ≡ l.index + before_wrong l.condition l.order (drop l.index l.segments)

use Rattle.std.proofs.Common.{◌≡◌, false}
use Rattle.std.specs.List.{AllAdjacentBelow}
use Rattle.gs1_ids.specs.Prefix.{overlap}
use Rattle.gs1_ids.proofs.overlap.are_free_of_the_next.Given as goal

-- the prefixes before the place are each free of the next
abbrev pub invariant-loop-place : goal.invariant-loop-place
invariant-loop-place l = AllAdjacentBelow (λ prefix next. overlap prefix next ≡ false) l.prefixes l.place

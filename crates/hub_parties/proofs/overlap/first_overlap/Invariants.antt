use Rattle.std.proofs.Common.{◌≡◌, drop}
use Rattle.gs1_ids.specs.Overlap.{first_overlap_between}
use Rattle.gs1_ids.proofs.FirstPairs.{moved_by}
use Rattle.hub_parties.proofs.overlap.first_overlap.Given as goal

-- no supplier so far overlaps a later one, so the first overlap is that of the rest
abbrev pub invariant-loop-first : goal.invariant-loop-first
invariant-loop-first l = first_overlap_between l.suppliers ≡ moved_by l.first (first_overlap_between (drop l.first l.suppliers))

use Rattle.std.proofs.Common.{◌≡◌, ℕ, ◌<◌, drop}
use Rattle.gs1_ids.specs.Overlap.{OverlapAt, first_overlap_of}
use Rattle.gs1_ids.proofs.FirstPairs.{moved_by}
use Rattle.gs1_ids.proofs.overlap.first_overlap.Given as goal

-- no place passed so far overlaps a later one, so the first overlap is that of the rest
abbrev pub invariant-loop-first : goal.invariant-loop-first
invariant-loop-first l = record {
  none : (i j : ℕ) → i < l.first → OverlapAt l.prefixes i j → ⊥;
  left : first_overlap_of l.prefixes ≡ moved_by l.first (first_overlap_of (drop l.first l.prefixes));
}

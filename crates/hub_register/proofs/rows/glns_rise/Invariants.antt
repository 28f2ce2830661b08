use Rattle.std.specs.List.{AllAdjacentBelow}
use Rattle.hub_register.proofs.Kept.{Below}
use Rattle.hub_register.proofs.rows.glns_rise.Given as goal

-- the GLN of each supplier before this position is lower than the next one's
abbrev pub invariant-loop-place : goal.invariant-loop-place
invariant-loop-place l = AllAdjacentBelow Below l.rows l.place

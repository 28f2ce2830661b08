use Rattle.std.proofs.Common.{Ok}
use Rattle.hub_pieces.specs.AllRows.{Tells}
use Rattle.hub_verify.proofs.Findings.{SoFar}
use Rattle.hub_verify.proofs.cross.first_misplaced.Given as goal

-- the rows so far are in their place
abbrev pub invariant-loop-row : goal.invariant-loop-row
invariant-loop-row g l =
    Tells g.S.AllRows.content g.S.AllRows.honest
    (SoFar g.S.AllRows.content g.S.AllRows.honest g.T.Placed.in_place l.rows l.row-index) l.fn.store l.store (Ok tt)

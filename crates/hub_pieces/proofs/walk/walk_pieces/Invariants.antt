use Rattle.std.proofs.Common.{Ok}
use Rattle.hub_pieces.specs.AllRows.{Tells}
use Rattle.hub_pieces.proofs.Walking.{Walked}
use Rattle.hub_pieces.proofs.walk.walk_pieces.Given as goal

-- each lower value was checked
abbrev pub invariant-pieces : goal.invariant-pieces
invariant-pieces g l =
    Tells g.S.AllRows.content g.S.AllRows.honest
    (Walked g.S.AllRows.content g.S.AllRows.honest l.kind (g.C.PieceCheck.holds l.check) (g.C.PieceCheck.shows l.check) l.value)
    l.fn.store l.store (Ok tt)

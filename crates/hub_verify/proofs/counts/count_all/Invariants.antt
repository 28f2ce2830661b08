use Rattle.std.proofs.Common.{Ok}
use Rattle.hub_pieces.specs.AllRows.{Tells}
use Rattle.hub_verify.proofs.Tallying.{Tallied}
use Rattle.hub_verify.proofs.counts.count_all.Given as goal

-- these are the numbers of rows with lower values
abbrev pub invariant-pieces : goal.invariant-pieces
invariant-pieces g l =
    Tells g.S.AllRows.content g.S.AllRows.honest
    (Tallied g.S.AllRows.content g.S.AllRows.honest g.T.PieceRow.divided g.T.PieceRow.rows g.T.PieceRow.column g.T.PieceRow.clean
    g.T.Counted.is_apart l.all l.apart l.value) l.fn.store l.store (Ok tt)

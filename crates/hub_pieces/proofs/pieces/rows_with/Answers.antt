use Rattle.hub_pieces.proofs.Reading.{rows_told}
use Rattle.hub_pieces.proofs.pieces.rows_with.Goals as goal

pub returns : goal.returns
returns g c =
    rows_told g.S.AllRows.content g.S.AllRows.honest g.T.PieceRow.rows g.T.PieceRow.column g.T.PieceRow.key_of g.T.PieceRow.clean
    c.args.value.now c.args.store.now c.read.new.store c.in_ok-read.read c.in_ok-rows.rows c.in_ok-rows.ensures.ok c.in_ok-read.ensures

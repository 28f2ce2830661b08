use Rattle.hub_pieces.specs.Pieces.{piece}
use Rattle.hub_verify.proofs.Crossing.{told_none, told_some}
use Rattle.hub_pieces.proofs.Walking.{piece_fails}
use Rattle.hub_verify.proofs.cross.misplaced_with.Goals as goal

pub returns-in_default : goal.returns-in_default
returns-in_default g c =
    told_none g.S.AllRows.content g.S.AllRows.honest g.T.PieceRow.key_of g.T.PieceRow.clean
    (λ t. piece g.T.PieceRow.column c.args.value.now (g.T.PieceRow.rows t)) g.T.Placed.in_place c.args.store.now
    c.rows_with.new.store c.first_misplaced.new.store c.in_ok-rows.rows c.as_slice.result.now c.as_slice.ensures
    c.in_ok-rows.ensures c.in_ok-first.first c.in_default.is c.in_ok-first.ensures

pub returns : goal.returns
returns g c =
    told_some g.S.AllRows.content g.S.AllRows.honest g.T.PieceRow.key_of g.T.PieceRow.clean
    (λ t. piece g.T.PieceRow.column c.args.value.now (g.T.PieceRow.rows t)) g.T.Placed.in_place c.args.store.now
    c.rows_with.new.store c.first_misplaced.new.store c.in_ok-rows.rows c.as_slice.result.now c.as_slice.ensures
    c.in_ok-rows.ensures c.in_ok-first.first c.in-Some.row c.in-Some.is c.in_ok-first.ensures g.T.PieceRow.named
    (λ t key it. g.met.T.Placed.shows_unsound t key
    (piece_fails g.T.PieceRow.column c.args.value.now g.T.PieceRow.key_of (g.T.Placed.in_place t) (g.T.PieceRow.rows t) key it))
    c.in_ok-found.found c.in_ok-found.ensures

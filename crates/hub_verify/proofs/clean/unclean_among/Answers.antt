use Rattle.std.proofs.Common.{◌≡◌, true, ap, ◌∙◌}
use Rattle.std.specs.List.{list_all}
use Rattle.hub_sound.specs.Showing.{ShowsUnclean}
use Rattle.hub_pieces.specs.Pieces.{piece, values_in}
use Rattle.hub_pieces.proofs.Walking.{walked_rows}
use Rattle.hub_verify.proofs.clean.unclean_among.Goals as goal

pub returns : goal.returns
returns g c =
    walked_rows g.S.AllRows.content g.S.AllRows.honest c.piece_kind-kind.result
    (λ t value. list_all g.T.PieceRow.clean (piece g.T.PieceRow.column value (g.T.PieceRow.rows t)) ≡ true)
    (λ t found. ShowsUnclean t found.kind found.key) g.T.PieceRow.rows g.T.PieceRow.column
    (λ t. ap (λ kind. values_in kind t) c.piece_kind-kind.ensures ∙ g.met.T.PieceRow.valued t) (λ t. g.T.PieceRow.clean)
    (λ t value h. h) c.args.store.now c.walk_pieces.new.store c.in_ok-found.found c.in_ok-found.ensures

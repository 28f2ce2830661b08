use Rattle.std.proofs.Common.{ap, ◌∙◌}
use Rattle.hub_verify.specs.Clean.{unclean_of}
use Rattle.hub_pieces.specs.Pieces.{piece}
use Rattle.hub_verify.proofs.Findings.{told_read}
use Rattle.hub_pieces.proofs.Walking.{piece_fails}
use Rattle.hub_verify.proofs.clean.unclean_with.Goals as goal

pub returns : goal.returns
returns g c =
    told_read g.S.AllRows.content g.S.AllRows.honest g.T.PieceRow.key_of g.T.PieceRow.clean
    (λ t. piece g.T.PieceRow.column c.args.value.now (g.T.PieceRow.rows t)) g.T.PieceRow.named
    (λ t key it. g.met.T.PieceRow.shows_unclean t key
    (piece_fails g.T.PieceRow.column c.args.value.now g.T.PieceRow.key_of g.T.PieceRow.clean (g.T.PieceRow.rows t) key it))
    c.args.store.now c.read.new.store c.in_ok-read.read c.unclean_of.result
    (c.unclean_of.ensures ∙ ap (λ kind. unclean_of kind c.in_ok-read.read) c.row_kind-kind.ensures) c.in_ok-read.ensures

use Rattle.std.proofs.Common.{◌+◌, Ok, ap, subst, ◌∙◌}
use Rattle.hub_pieces.specs.AllRows.{Tells}
use Rattle.hub_pieces.specs.Pieces.{IsNext, values_in}
use Rattle.hub_verify.proofs.Tallying.{tally_begins, tally_goes_on, tally_ends}
use Rattle.hub_verify.proofs.counts.count_all.Goals as goal

pub pieces-init : goal.pieces-init
pieces-init g c =
    tally_begins g.S.AllRows.content g.S.AllRows.honest g.T.PieceRow.divided g.T.PieceRow.rows g.T.PieceRow.column g.T.PieceRow.clean
    g.T.Counted.is_apart c.args.store.now c.new-value.result c.new-value.ensures

pub pieces-preserved : goal.pieces-preserved
pieces-preserved g c =
    tally_goes_on g.S.AllRows.content g.S.AllRows.honest g.T.PieceRow.divided g.T.PieceRow.rows g.T.PieceRow.column
    g.T.PieceRow.clean g.T.Counted.is_apart g.met.T.PieceRow.valued c.pieces.value c.as_slice-here.result.now
    c.as_slice-here.ensures c.args.store.now c.pieces.store c.rows_with.new.store c.next_value.new.self c.pieces.all c.pieces.apart
    c.pieces.invariant c.in_ok-rows.rows c.as_slice.result.now c.as_slice.ensures c.in_ok-rows.ensures c.in_ok-more.more
    (c.in_ok-more.ensures.ok ∙ ap (λ n. c.pieces.all + n) c.len.ensures) c.apart_among-few.result c.apart_among-few.ensures
    c.in_ok-more_apart.more_apart c.in_ok-more_apart.ensures.ok c.in_ok-next.next
    (subst (λ kind. Tells g.S.AllRows.content g.S.AllRows.honest
    (λ t. IsNext c.as_slice-here.result.now (values_in kind t)) c.rows_with.new.store c.next_value.new.self
    (Ok c.in_ok-next.next)) c.piece_kind-kind.ensures c.in_ok-next.ensures) c.in-Some.above c.in-Some.is

pub returns-in_default : goal.returns-in_default
returns-in_default g c =
    tally_ends g.S.AllRows.content g.S.AllRows.honest g.T.PieceRow.divided g.T.PieceRow.rows g.T.PieceRow.column
    g.T.PieceRow.clean g.T.Counted.is_apart g.met.T.PieceRow.valued c.pieces.value c.as_slice-here.result.now
    c.as_slice-here.ensures c.args.store.now c.pieces.store c.rows_with.new.store c.next_value.new.self c.pieces.all c.pieces.apart
    c.pieces.invariant c.in_ok-rows.rows c.as_slice.result.now c.as_slice.ensures c.in_ok-rows.ensures c.in_ok-more.more
    (c.in_ok-more.ensures.ok ∙ ap (λ n. c.pieces.all + n) c.len.ensures) c.apart_among-few.result c.apart_among-few.ensures
    c.in_ok-more_apart.more_apart c.in_ok-more_apart.ensures.ok c.in_ok-next.next
    (subst (λ kind. Tells g.S.AllRows.content g.S.AllRows.honest
    (λ t. IsNext c.as_slice-here.result.now (values_in kind t)) c.rows_with.new.store c.next_value.new.self
    (Ok c.in_ok-next.next)) c.piece_kind-kind.ensures c.in_ok-next.ensures) c.in_default.is

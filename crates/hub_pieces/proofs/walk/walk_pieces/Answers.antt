use Rattle.std.proofs.Common.{sym, ◌∙◌}
use Rattle.hub_pieces.proofs.Walking.{walk_begins, walk_stops, walk_goes_on, walk_ends}
use Rattle.hub_pieces.proofs.walk.walk_pieces.Goals as goal

pub pieces-init : goal.pieces-init
pieces-init g c =
    walk_begins g.S.AllRows.content g.S.AllRows.honest c.args.kind (g.C.PieceCheck.holds c.args.check.now)
    (g.C.PieceCheck.shows c.args.check.now) c.args.store.now c.new-value.result c.new-value.ensures

pub pieces-preserved : goal.pieces-preserved
pieces-preserved g c =
    walk_goes_on g.S.AllRows.content g.S.AllRows.honest c.args.kind (g.C.PieceCheck.holds c.args.check.now)
    (g.C.PieceCheck.shows c.args.check.now) c.pieces.value c.as_slice-here.result.now c.as_slice-here.ensures c.args.store.now
    c.pieces.store c.check.new.store c.pieces.invariant c.in_ok-found.found c.in_ok-found.ensures
    (sym c.is_some.ensures ∙ c.if-is_some.false) c.next_value.new.self c.in_ok-next.next c.in_ok-next.ensures c.in-Some.above
    c.in-Some.is

pub returns-then-is_some : goal.returns-then-is_some
returns-then-is_some g c =
    walk_stops g.S.AllRows.content g.S.AllRows.honest c.args.kind (g.C.PieceCheck.holds c.args.check.now)
    (g.C.PieceCheck.shows c.args.check.now) c.pieces.value c.as_slice-here.result.now c.as_slice-here.ensures c.args.store.now
    c.pieces.store c.check.new.store c.pieces.invariant c.in_ok-found.found c.in_ok-found.ensures
    (sym c.is_some.ensures ∙ c.if-is_some.true)

pub returns-in_default : goal.returns-in_default
returns-in_default g c =
    walk_ends g.S.AllRows.content g.S.AllRows.honest c.args.kind (g.C.PieceCheck.holds c.args.check.now)
    (g.C.PieceCheck.shows c.args.check.now) c.pieces.value c.as_slice-here.result.now c.as_slice-here.ensures c.args.store.now
    c.pieces.store c.check.new.store c.pieces.invariant c.in_ok-found.found c.in_ok-found.ensures
    (sym c.is_some.ensures ∙ c.if-is_some.false) c.next_value.new.self c.in_ok-next.next c.in_ok-next.ensures c.in_default.is

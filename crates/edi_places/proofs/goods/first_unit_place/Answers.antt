use Rattle.std.proofs.Common.{sym, ◌∙◌}
use Rattle.edi_places.proofs.Repeats.{more_of_slice}
use Rattle.edi_places.proofs.goods.first_unit_place.Goals as goal

pub loop-index-preserved : goal.loop-index-preserved
loop-index-preserved c =
    more_of_slice c.args.message.now c.loop-index.index c.loop-index.seen c.begins_wrong_unit.new.seen c.loop-index-test.true
    c.loop-index.invariant (sym c.in_ok-begins_wrong_unit.ensures.wrong ∙ c.if-branch.false)
    (c.in_ok-begins_wrong_unit.ensures.seen c.if-branch.false)

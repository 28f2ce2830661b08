use Rattle.std.proofs.Common.{Bool, not, ap, sym, ◌∙◌, arith}
use Rattle.hub_tables.specs.declared.rows.LineRow.{LineRow}
use Rattle.hub_sound.specs.Goods.{Sent, is_sent_settled}
use Rattle.hub_sound.proofs.Settling.{find_next, find_here, find_none}
use Rattle.hub_sound.proofs.goods.first_unsettled.Goals as goal

abbrev fails : Sent → LineRow → Bool
fails sent line = not (is_sent_settled sent line)

pub loop-line-preserved : goal.loop-line-preserved
loop-line-preserved c =
    find_next c.args.lines.now c.loop-line.line-index c.line-item.result c.loop-line-test.true c.line-item.is
    (fails c.args.sent.now) (ap not (sym c.is_settled-settled.ensures ∙ c.if-not-settled.false)) c.loop-line.invariant

pub returns-then-not-settled : goal.returns-then-not-settled
returns-then-not-settled c =
    find_here c.args.lines.now c.loop-line.line-index c.line-item.result c.loop-line-test.true c.line-item.is
    (fails c.args.sent.now) (ap not (sym c.is_settled-settled.ensures ∙ c.if-not-settled.true)) c.loop-line.invariant

pub returns : goal.returns
returns c =
    find_none (fails c.args.sent.now) c.args.lines.now c.loop-line.line-index (omega (arith, c.loop-line-test.false))
    c.loop-line.invariant

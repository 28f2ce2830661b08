use Rattle.std.proofs.Common.{Bool, not, is_some, ap, sym, ◌∙◌, arith}
use Rattle.hub_tables.specs.declared.rows.ContentRow.{ContentRow}
use Rattle.hub_sound.specs.Goods.{Sent, sent_at}
use Rattle.hub_sound.proofs.Settling.{find_next, find_here, find_none}
use Rattle.hub_sound.proofs.goods.first_without_line.Goals as goal

abbrev fails : Sent → ContentRow → Bool
fails sent content = not (is_some (sent_at sent content.number content.line))

pub loop-content-preserved : goal.loop-content-preserved
loop-content-preserved c =
    find_next c.args.contents.now c.loop-content.content-index c.content-item.result c.loop-content-test.true c.content-item.is
    (fails c.args.sent.now) (ap not (sym c.has_line-known.ensures ∙ c.if-not-known.false)) c.loop-content.invariant

pub returns-then-not-known : goal.returns-then-not-known
returns-then-not-known c =
    find_here c.args.contents.now c.loop-content.content-index c.content-item.result c.loop-content-test.true c.content-item.is
    (fails c.args.sent.now) (ap not (sym c.has_line-known.ensures ∙ c.if-not-known.true)) c.loop-content.invariant

pub returns : goal.returns
returns c =
    find_none (fails c.args.sent.now) c.args.contents.now c.loop-content.content-index (omega (arith, c.loop-content-test.false))
    c.loop-content.invariant

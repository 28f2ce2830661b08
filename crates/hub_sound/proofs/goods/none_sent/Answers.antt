use Rattle.hub_sound.specs.Goods.{sent_at}
use Rattle.hub_sound.proofs.Settling.{none_next}
use Rattle.hub_sound.proofs.goods.none_sent.Goals as goal

pub loop-line-preserved : goal.loop-line-preserved
loop-line-preserved c = λ number n.
    none_next c.args.lines.now c.loop-line.line-index c.line-item.result c.loop-line-test.true c.line-item.is number n
    (sent_at c.loop-line.sent number n) (sent_at c.put_line.new.sent number n) (c.in_ok-put_line.ensures number n)
    (c.loop-line.invariant number n)

use Rattle.hub_sound.specs.Goods.{sent_at}
use Rattle.hub_sound.proofs.Settling.{sent_next}
use Rattle.hub_sound.proofs.goods.with_contents.Goals as goal

pub loop-content-preserved : goal.loop-content-preserved
loop-content-preserved c = λ number n.
    sent_next c.args.contents.now c.loop-content.content-index c.content-item.result c.loop-content-test.true c.content-item.is
    number n (sent_at c.args.sent number n) (sent_at c.loop-content.sent number n) (sent_at c.put_content.new.sent number n)
    (c.in_ok-put_content.ensures number n) (c.loop-content.invariant number n)

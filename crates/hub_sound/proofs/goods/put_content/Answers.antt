use Rattle.std.proofs.Common.{ap, sym, ◌∙◌}
use Rattle.hub_sound.specs.Goods.{sent_at, with_more}
use Rattle.hub_sound.proofs.Settling.{becomes, known, unknown}
use Rattle.hub_sound.proofs.goods.put_content.Goals as goal

pub returns-in_default : goal.returns-in_default
returns-in_default c =
    unknown c.args.sent.now c.args.content.now
    (sym c.in_default.is ∙ c.sent_at.ensures
    ∙ ap (λ n. sent_at c.args.sent.now n c.args.content.now.line) c.as_slice-number.ensures)
    (λ sum. with_more sum c.args.content.now.quantity)

pub returns : goal.returns
returns c =
    known c.args.sent.now c.args.content.now c.in-Some.before c.with_more-sum.result
    (λ sum. with_more sum c.args.content.now.quantity)
    (c.in-Some.ensures ∙ ap (λ n. sent_at c.args.sent.now n c.args.content.now.line) c.as_slice-number.ensures)
    c.with_more-sum.ensures c.insert.new.self
    (becomes c.args.sent.now c.insert.new.self c.as_slice-number.result c.args.content.now.number c.args.content.now.line
    c.with_more-sum.result c.as_slice-number.ensures c.in_ok-insert.ensures.updates.0)

use Rattle.std.proofs.Common.{ap, ◌∙◌}
use Rattle.hub_sound.specs.Goods.{sent_from}
use Rattle.hub_sound.proofs.Settling.{tells_content, tells_line, tells_none, no_content}
use Rattle.hub_sound.proofs.goods.first_misfit.Goals as goal

pub returns-in-Some : goal.returns-in-Some
returns-in-Some c = λ clean.
    tells_content c.args.lines.now c.args.contents.now c.in_ok-sent.sent c.in_ok-sent.ensures c.in-Some.content.now
    c.in-Some.ensures c.in_ok-found.found c.in_ok-found.ensures

pub returns-in-Some-first_unsettled : goal.returns-in-Some-first_unsettled
returns-in-Some-first_unsettled c = λ clean.
    tells_line c.args.lines.now c.args.contents.now clean c.in_ok-sent-2.sent
    (λ number n. c.in_ok-sent-2.ensures number n
    ∙ ap (λ o. sent_from o number n c.args.contents.now) (c.in_ok-sent.ensures number n))
    c.in-Some-first_unsettled.line.now c.in-Some-first_unsettled.ensures
    c.in_ok-found-in-Some-first_unsettled.found c.in_ok-found-in-Some-first_unsettled.ensures

pub returns : goal.returns
returns c = λ clean.
    tells_none c.args.lines.now c.args.contents.now clean c.in_ok-sent-2.sent
    (λ number n. c.in_ok-sent-2.ensures number n
    ∙ ap (λ o. sent_from o number n c.args.contents.now) (c.in_ok-sent.ensures number n))
    (no_content c.args.lines.now c.args.contents.now c.in_ok-sent.sent c.in_ok-sent.ensures c.in_default.ensures)
    c.in-None.ensures

use Rattle.hub_journal.proofs.Bodies.{body_here, body_later, body_none}
use Rattle.hub_journal.proofs.reply.body_in.Goals as goal

pub returns-in-Some-after_head : goal.returns-in-Some-after_head
returns-in-Some-after_head c =
    body_here c.in-Some.field-0-0.now c.in-Some.after.now c.loop-after.rest.now c.args.response.now
    c.in-Some.ensures.cases.0 c.after_head.result c.in-Some-after_head.body c.in-Some-after_head.is c.after_head.ensures
    c.loop-after.invariant

pub loop-after-preserved : goal.loop-after-preserved
loop-after-preserved c =
    body_later c.in-Some.field-0-0.now c.in-Some.after.now c.loop-after.rest.now c.args.response.now
    c.in-Some.ensures.cases.0 c.after_head.result c.in_default-after_head.is c.after_head.ensures c.loop-after.invariant

pub returns : goal.returns
returns c = body_none c.loop-after.rest.now c.args.response.now c.in_default.ensures.cases c.loop-after.invariant

use Rattle.std.proofs.Common.{◌≡◌, length, arith}
use Rattle.edi_places.proofs.Stopping.{begins, taken_one, more, stops, ends}
use Rattle.edi_places.proofs.text.stop_in.Goals as goal

pub loop-offset-init : goal.loop-offset-init
loop-offset-init c = begins c.args.bytes.now c.args.machine.now c.requires

pub loop-offset-preserved : goal.loop-offset-preserved
loop-offset-preserved c =
    let bytes = c.args.bytes.now in
    let offset = c.loop-offset.offset in
    more bytes c.loop-offset.machine c.push_all.new.self offset c.loop-offset.line c.loop-offset.segment c.loop-offset-test.true
    c.loop-offset.invariant c.in-Ok.ended
    (taken_one bytes c.loop-offset.machine c.push_all.new.self offset c.in-Ok.field-0-0 c.in-Ok.ended c.loop-offset-test.true
    c.in-Ok.ensures.within c.in-Ok.ensures.whole c.in-Ok.ensures.some c.in-Ok.ensures.ok)

pub returns-in_default : goal.returns-in_default
returns-in_default c =
    stops c.args.bytes.now c.loop-offset.machine c.loop-offset.offset c.loop-offset.line c.loop-offset.segment c.in_default.field-0
    c.loop-offset-test.true c.loop-offset.invariant c.in_default.ensures.err

pub returns : goal.returns
returns c =
    let bytes = c.args.bytes.now in
    let all : c.loop-offset.offset ≡ length bytes = omega (arith, c.loop-offset-test.false, c.loop-offset.auto.offset-end) in
    ends bytes c.loop-offset.machine c.loop-offset.offset
    (length bytes) c.loop-offset.line c.loop-offset.segment all c.loop-offset-test.false c.loop-offset.invariant

use Rattle.std.proofs.Common.{arith, length-take-le}
use Rattle.http_messages.proofs.Filling.{follows_limit, piece_limit}
use Rattle.http_messages.proofs.body.fill.Goals as goal

pub returns-in_default-clause-front : goal.returns-in_default-clause-front
returns-in_default-clause-front g c =
    follows_limit _ _ _ _ _ 0 _ c.loop-end.invariant.bytes c.in_default.ensures.none
    (omega (
      arith,
      c.requires,
      c.loop-end.invariant.within,
      c.loop-end.auto.bytes,
      length-take-le c.args.filled c.args.bytes.now c.requires,
      length-take-le c.loop-end.end c.loop-end.bytes c.loop-end.invariant.within,
    ))

pub returns-then-count-eq0-clause-front : goal.returns-then-count-eq0-clause-front
returns-then-count-eq0-clause-front g c =
    piece_limit _ _ _ _ _ _ _ _ _ c.loop-end.invariant.bytes c.in-Ok.ensures.taken
    (omega (
      arith,
      c.requires,
      c.loop-end.invariant.within,
      c.loop-end.auto.bytes,
      length-take-le c.args.filled c.args.bytes.now c.requires,
      length-take-le c.loop-end.end c.loop-end.bytes c.loop-end.invariant.within,
    ))

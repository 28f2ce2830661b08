use Rattle.std.proofs.Common.{take, arith, length-take-le}
use Rattle.http_messages.proofs.Reading.{finds_full}
use Rattle.http_messages.proofs.head.read_head.Goals as goal

pub returns-then-filled-eq-LONGEST_HEAD-clause-head : goal.returns-then-filled-eq-LONGEST_HEAD-clause-head
returns-then-filled-eq-LONGEST_HEAD-clause-head g c =
    finds_full _ _ (take c.reading.filled c.reading.bytes) c.reading.invariant.bytes
    (omega (arith, length-take-le c.reading.filled c.reading.bytes (omega arith)))
    (rw c.in-Ok-Partial.field-0-is at c.in-Ok-Partial.ensures.partial)

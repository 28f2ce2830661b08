use Rattle.std.proofs.Common.{◌≡◌, ◌-◌, length, drop, arith, ◌∙◌, length-drop, length-take-le}
use Rattle.http_messages.proofs.Reading.{read_behind}
use Rattle.http_messages.proofs.more.read_more.Goals as goal

pub returns-clause-taken : goal.returns-clause-taken
returns-clause-taken g c =
    let room : length c.read.new.buffer ≡ length c.args.bytes.now - c.args.filled =
    c.read.auto.buffer ∙ length-take-le (length c.args.bytes.now - c.args.filled) (drop c.args.filled c.args.bytes.now)
    (omega (arith, length-drop c.args.filled c.args.bytes.now)) in
    read_behind c.read.result _ _ c.args.filled c.args.bytes.now c.read.new.buffer c.requires room c.read.ensures.bound c.read.ensures.bytes

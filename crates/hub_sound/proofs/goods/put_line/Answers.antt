use Rattle.hub_sound.proofs.Settling.{becomes}
use Rattle.hub_sound.proofs.goods.put_line.Goals as goal

pub returns : goal.returns
returns c =
    becomes c.args.sent.now c.insert.new.self c.as_slice-number.result c.args.line.now.number c.args.line.now.line 0
    c.as_slice-number.ensures c.in_ok-insert.ensures.updates.0

use Rattle.std.proofs.Common.{[], rules}
use Rattle.edi_base.proofs.Going.{goes_none, goes_put, goes_cut, puts_cut, puts_last}
use Rattle.edi_base.proofs.buffer.Buffer.put.Goals as goal

pub returns-in_err-flush-clause-bytes : goal.returns-in_err-flush-clause-bytes
returns-in_err-flush-clause-bytes g c =
    puts_cut c.from_residual.result c.flush.new.self c.from_residual.ensures.0
    (goes_cut c.args.bytes.now (goes_none (g.W.Sink.contents c.args.out.now) c.args.self.now c.args.bytes.now) c.in_err-flush.ensures.bytes)

pub returns-then-bytes-gt-ROOM-clause-bytes : goal.returns-then-bytes-gt-ROOM-clause-bytes
returns-then-bytes-gt-ROOM-clause-bytes g c =
    let flushed = goes_put {ahead = c.args.bytes.now}
    (goes_none (g.W.Sink.contents c.args.out.now) c.args.self.now c.args.bytes.now)
    c.in_ok-flush.ensures.bytes in
    rw c.in_ok-flush.ensures.empty
    (puts_last c.write_whole.result (g.W.Sink.contents c.write_whole.new.out) [] flushed c.write_whole.ensures.bytes)

pub returns-clause-bytes : goal.returns-clause-bytes
returns-clause-bytes c = search rules

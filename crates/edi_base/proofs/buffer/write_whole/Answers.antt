use Rattle.std.proofs.Common.{arith}
use Rattle.edi_base.proofs.Going.{goes_written}
use Rattle.edi_base.proofs.buffer.write_whole.Goals as goal

pub loop-rest-preserved : goal.loop-rest-preserved
loop-rest-preserved g c = record {
  bytes = goes_written c.in-Ok.count c.split_at.result.1.now c.loop-rest.invariant.bytes c.in-Ok.ensures.bytes c.split_at.ensures.back;
  flag = grind (arith, c.in-Ok.ensures.flag, c.loop-rest.invariant.flag);
}

use Rattle.std.proofs.Common.{rules}
use Rattle.edi_base.proofs.buffer.Buffer.new.Goals as goal

pub returns : goal.returns
returns c = search rules

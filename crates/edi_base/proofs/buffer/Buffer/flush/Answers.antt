use Rattle.std.proofs.Common.{rules}
use Rattle.edi_base.proofs.buffer.Buffer.flush.Goals as goal

pub returns-in_err-write_whole-clause-bytes : goal.returns-in_err-write_whole-clause-bytes
returns-in_err-write_whole-clause-bytes g c = search rules

pub returns-clause-bytes : goal.returns-clause-bytes
returns-clause-bytes g c = search rules

use Rattle.std.proofs.Common.{rules}
use Rattle.edi_show.proofs.fault.WholeFault.code.Goals as goal

pub returns-in-Envelope : goal.returns-in-Envelope
returns-in-Envelope c = search rules

use Rattle.std.proofs.Common.{rules}
use Rattle.edi_relay.proofs.relay.RelayFault.code.Goals as goal

pub returns-in-Envelope : goal.returns-in-Envelope
returns-in-Envelope c = search rules

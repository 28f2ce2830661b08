use Rattle.std.proofs.Common.{rules}
use Rattle.edi_relay.proofs.relay.RelayWords.new.Goals as goal

pub returns-clause-value : goal.returns-clause-value
returns-clause-value c = search rules

pub returns-clause-limits : goal.returns-clause-limits
returns-clause-limits c = search rules

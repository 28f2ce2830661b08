use Rattle.std.proofs.Common.{rules}
use Rattle.edi_tokens.proofs.text.service_string.Goals as goal

pub returns : goal.returns
returns c = search rules

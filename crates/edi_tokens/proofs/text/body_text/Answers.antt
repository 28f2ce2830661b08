use Rattle.std.proofs.Common.{rules}
use Rattle.edi_tokens.proofs.text.body_text.Goals as goal

pub returns : goal.returns
returns c = search rules

use Rattle.edi_tokens.proofs.Spelled.{lent_spelled}
use Rattle.edi_tokens.proofs.laws.lent_segments_are_spelled.Goals as goal

pub returns : goal.returns
returns c = lent_spelled

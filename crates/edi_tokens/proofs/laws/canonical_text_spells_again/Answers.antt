use Rattle.edi_tokens.proofs.SpelledAgain.{canonical_again}
use Rattle.edi_tokens.proofs.laws.canonical_text_spells_again.Goals as goal

pub returns : goal.returns
returns c = canonical_again

use Rattle.edi_tokens.proofs.Exact.{spells_once}
use Rattle.edi_tokens.proofs.laws.text_spells_one_list.Goals as goal

pub returns : goal.returns
returns c = spells_once

use Rattle.hub_texts.proofs.CancelTexts.{said, says}
use Rattle.hub_texts.proofs.laws.cancel_is_five_lines.Goals as goal

pub returns : goal.returns
returns c = record { read = said; said = says }

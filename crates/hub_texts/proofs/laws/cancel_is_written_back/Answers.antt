use Rattle.std.proofs.Common.{ap}
use Rattle.hub_law.specs.CancelText.{cancel_text}
use Rattle.hub_texts.proofs.CancelTexts.{written_back, one_text}
use Rattle.hub_texts.proofs.laws.cancel_is_written_back.Goals as goal

pub returns : goal.returns
returns c = record { back = written_back; content = λ first second c d h g. (one_text first second c d h g, ap cancel_text) }

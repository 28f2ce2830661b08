use Rattle.hub_texts.proofs.CancelTexts.{given_by_texts}
use Rattle.hub_texts.proofs.laws.cancel_is_given_by_its_texts.Goals as goal

pub returns : goal.returns
returns c = given_by_texts

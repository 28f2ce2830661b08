use Rattle.std.proofs.Common.{rules}
use Rattle.hub_transactions.proofs.knowing.known_for_cancel.Goals as goal

pub returns-clause-told : goal.returns-clause-told
returns-clause-told g c = λ honest.
    record { remembered = search rules; order = λ none. search rules; lines = λ none. search rules }

use Rattle.hub_clean.proofs.Submitted.{as_within, document_within}
use Rattle.hub_clean.proofs.laws.messages_read_are_within_limits.Goals as goal

pub returns-clause-of_a_type : goal.returns-clause-of_a_type
returns-clause-of_a_type c = as_within

pub returns-clause-document : goal.returns-clause-document
returns-clause-document c = document_within

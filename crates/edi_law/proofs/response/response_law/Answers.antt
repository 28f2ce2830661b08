use Rattle.edi_law.proofs.ResponseLemmas.{fault_law, response_law}
use Rattle.edi_law.proofs.response.response_law.Goals as goal

pub returns-clause-fault : goal.returns-clause-fault
returns-clause-fault c = fault_law

pub returns-clause-response : goal.returns-clause-response
returns-clause-response c = response_law

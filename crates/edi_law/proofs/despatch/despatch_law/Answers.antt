use Rattle.edi_law.proofs.DespatchLemmas.{fault_law, despatch_law}
use Rattle.edi_law.proofs.despatch.despatch_law.Goals as goal

pub returns-clause-fault : goal.returns-clause-fault
returns-clause-fault c = fault_law

pub returns-clause-despatch : goal.returns-clause-despatch
returns-clause-despatch c = despatch_law

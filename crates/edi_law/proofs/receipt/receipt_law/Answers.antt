use Rattle.edi_law.proofs.ReceiptLemmas.{fault_law, receipt_law}
use Rattle.edi_law.proofs.receipt.receipt_law.Goals as goal

pub returns-clause-fault : goal.returns-clause-fault
returns-clause-fault c = fault_law

pub returns-clause-receipt : goal.returns-clause-receipt
returns-clause-receipt c = receipt_law

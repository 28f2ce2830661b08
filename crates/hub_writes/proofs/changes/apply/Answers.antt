use Rattle.hub_writes.proofs.changes.apply.Goals as goal

pub returns-in-AddHub-clause-acts : goal.returns-in-AddHub-clause-acts
returns-in-AddHub-clause-acts g c = rw c.in-AddHub.is c.add_hub.ensures.acts

pub returns-in-SetHub-clause-acts : goal.returns-in-SetHub-clause-acts
returns-in-SetHub-clause-acts g c = rw c.in-SetHub.is c.set_hub.ensures.acts

pub returns-in-AddKey-clause-acts : goal.returns-in-AddKey-clause-acts
returns-in-AddKey-clause-acts g c = rw c.in-AddKey.is c.add_key.ensures.acts

pub returns-in-SetKey-clause-acts : goal.returns-in-SetKey-clause-acts
returns-in-SetKey-clause-acts g c = rw c.in-SetKey.is c.set_key.ensures.acts

pub returns-in-AddPrefix-clause-acts : goal.returns-in-AddPrefix-clause-acts
returns-in-AddPrefix-clause-acts g c = rw c.in-AddPrefix.is c.add_prefix.ensures.acts

pub returns-in-AddOrder-clause-acts : goal.returns-in-AddOrder-clause-acts
returns-in-AddOrder-clause-acts g c = rw c.in-AddOrder.is c.add_order.ensures.acts

pub returns-in-AddLine-clause-acts : goal.returns-in-AddLine-clause-acts
returns-in-AddLine-clause-acts g c = rw c.in-AddLine.is c.add_line.ensures.acts

pub returns-in-SetLine-clause-acts : goal.returns-in-SetLine-clause-acts
returns-in-SetLine-clause-acts g c = rw c.in-SetLine.is c.set_line.ensures.acts

pub returns-in-AddAdvice-clause-acts : goal.returns-in-AddAdvice-clause-acts
returns-in-AddAdvice-clause-acts g c = rw c.in-AddAdvice.is c.add_advice.ensures.acts

pub returns-in-AddPallet-clause-acts : goal.returns-in-AddPallet-clause-acts
returns-in-AddPallet-clause-acts g c = rw c.in-AddPallet.is c.add_pallet.ensures.acts

pub returns-in-SetPallet-clause-acts : goal.returns-in-SetPallet-clause-acts
returns-in-SetPallet-clause-acts g c = rw c.in-SetPallet.is c.set_pallet.ensures.acts

pub returns-in-AddContent-clause-acts : goal.returns-in-AddContent-clause-acts
returns-in-AddContent-clause-acts g c = rw c.in-AddContent.is c.add_content.ensures.acts

pub returns-in-AddReceipt-clause-acts : goal.returns-in-AddReceipt-clause-acts
returns-in-AddReceipt-clause-acts g c = rw c.in-AddReceipt.is c.add_receipt.ensures.acts

pub returns-in-ClearReceipts-clause-acts : goal.returns-in-ClearReceipts-clause-acts
returns-in-ClearReceipts-clause-acts g c = rw c.in-ClearReceipts.is c.clear_receipts.ensures.acts

pub returns-in-Remember-clause-acts : goal.returns-in-Remember-clause-acts
returns-in-Remember-clause-acts g c = rw c.in-Remember.is c.remember.ensures.acts

pub returns-in-AddMail-clause-acts : goal.returns-in-AddMail-clause-acts
returns-in-AddMail-clause-acts g c = rw c.in-AddMail.is c.add_mail.ensures.acts

pub returns-in-SetMail-clause-acts : goal.returns-in-SetMail-clause-acts
returns-in-SetMail-clause-acts g c = rw c.in-SetMail.is c.set_mail.ensures.acts

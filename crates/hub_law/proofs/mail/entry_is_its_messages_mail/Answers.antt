use Rattle.hub_law.proofs.MailOf.{entry_of_message}
use Rattle.hub_law.proofs.mail.entry_is_its_messages_mail.Goals as goal

pub returns : goal.returns
returns c = entry_of_message

-- Shows that a mailbox entry has the text of its message.
use Rattle.std.proofs.Common.{◌≡◌, ℕ, List, ap, sym}
use Rattle.edi_envelope.specs.declared.interchange.RawMessage.{RawMessage}
use Rattle.edi_envelope.specs.Mail as messages
use Rattle.hub_tables.specs.State.{next_mail}
use Rattle.hub_tables.specs.Tables.{Tables}
use Rattle.hub_tables.specs.declared.cases.MailKind.{MailKind}
use Rattle.hub_tables.specs.declared.change.Change.TheVariants.{AddMail}
use Rattle.hub_tables.specs.declared.rows.MailRow.{MailRow}
use Rattle.hub_rules.specs.declared.incoming.IncomingMessage.{IncomingMessage}
use Rattle.hub_rules.specs.MailboxRules.{new_mail}
use Rattle.hub_law.specs.MailText.{entry_text}
use Rattle.hub_law.specs.Messages.{body_of}

entry_alike : (made entry : MailRow) → AddMail made ≡ AddMail entry → made ≡ entry
entry_alike made entry h = cc

pub entry_of_message : (hub supplier document : List ℕ) (state : Tables) (message : RawMessage) (incoming : IncomingMessage)
    (kind : MailKind) (entry : MailRow)
    → new_mail supplier state incoming kind document (body_of message) ≡ AddMail entry
    → entry_text hub entry ≡ messages.mail_text hub supplier incoming.moment incoming.decimal (next_mail state) message
unfolding entry_text
entry_of_message hub supplier document state message incoming kind entry h = sym (ap (entry_text hub) (entry_alike _ entry h))

-- Defines what a list shows of mailbox entries.
use Rattle.hub_tables.specs.declared.rows.MailRow.{MailRow}
use Rattle.hub_store.specs.declared.mail.MailHead.{MailHead}

abbrev pub head_of : MailRow → MailHead
head_of entry = record { number = entry.number; kind = entry.kind; document = entry.document }

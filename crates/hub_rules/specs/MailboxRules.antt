-- Defines the entries of a mailbox, and the rule that limits their number (B16).
use Rattle.std.specs.Prelude.{ℕ, ◌+◌, nat_lt, Bool, false, List}
use Rattle.hub_tables.specs.EdiEnvelope.Mail.{last_number}
use Rattle.hub_tables.specs.Cases.{kind_letter, truth_number}
use Rattle.hub_tables.specs.State.{next_mail}
use Rattle.hub_tables.specs.Tables.{Tables}
use Rattle.hub_tables.specs.declared.cases.MailKind.{MailKind}
use Rattle.hub_tables.specs.declared.change.Change.{Change}
use Rattle.hub_tables.specs.declared.change.Change.TheVariants.{AddMail}
use Rattle.hub_rules.specs.declared.incoming.IncomingMessage.{IncomingMessage}

-- whether a mailbox with this many entries has no number left for another
abbrev pub is_full : ℕ → Bool
is_full mails = nat_lt last_number (mails + 1)

-- the entry with this number
abbrev pub mail_entry : List ℕ → ℕ → IncomingMessage → MailKind → List ℕ → List ℕ → Change
mail_entry supplier number incoming kind document body = AddMail (record {
  supplier = supplier;
  number = number;
  moment = incoming.moment;
  decimal = incoming.decimal;
  kind = kind_letter kind;
  document = document;
  body = body;
  taken = truth_number false;
})

-- the next entry of the supplier's mailbox
abbrev pub new_mail : List ℕ → Tables → IncomingMessage → MailKind → List ℕ → List ℕ → Change
new_mail supplier state incoming kind document body = mail_entry supplier (next_mail state) incoming kind document body

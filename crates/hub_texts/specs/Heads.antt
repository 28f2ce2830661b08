-- Defines the line of a mailbox entry in a list, from what a list shows of it.
use Rattle.std.specs.Prelude.{ℕ, List, [], ◌∷◌}
use Rattle.std.specs.Fmt.{decimal}
use Rattle.hub_store.specs.declared.mail.MailHead.{MailHead}
use Rattle.hub_law.specs.MailText.{type_of}
use Rattle.hub_law.specs.Widths.{right, line}

-- the entry's number (right-aligned in 14 columns), its type and its document number
abbrev pub head_line : MailHead → List ℕ
head_line head = line (right 14 (decimal head.number) ∷ type_of head.kind ∷ head.document ∷ [])

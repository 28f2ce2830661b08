-- Defines the texts about mailbox entries: the interchange of one entry, and the list of the entries that are not
-- taken.
use Rattle.std.specs.Prelude.{ℕ, ◌==◌, nat_lt, List, [], ◌∷◌, ◌++◌, length, take, if◌then◌else◌, codes}
use Rattle.std.specs.Fmt.{decimal}
use Rattle.std.specs.List.{flat_map}
use Rattle.edi_envelope.specs.EdiTokens.Text.{una}
use Rattle.edi_envelope.specs.Mail.{text_around}
use Rattle.hub_tables.specs.Cases.{kind_letter}
use Rattle.hub_tables.specs.declared.cases.MailKind.TheVariants as kinds
use Rattle.hub_tables.specs.declared.rows.MailRow.{MailRow}
use Rattle.hub_law.specs.Widths.{right, line}

-- an entry as an interchange from the hub to its owner, with the decimal mark of the message that it carries
unfoldable pub entry_text : List ℕ → MailRow → List ℕ
entry_text hub entry = una entry.decimal ++ text_around hub entry.supplier entry.moment entry.number entry.body

abbrev pub type_of : ℕ → List ℕ
type_of kind = if kind == kind_letter kinds.Orders then codes "ORDERS" else codes "RECADV"

-- the entry's number (right-aligned in 14 columns), its type and its document number
abbrev pub entry_line : MailRow → List ℕ
entry_line entry = line (right 14 (decimal entry.number) ∷ type_of entry.kind ∷ entry.document ∷ [])

-- the most entries that one list shows
abbrev pub list_limit : ℕ
list_limit = 100

-- the first entries, at most `list_limit`, then whether there are more
unfoldable pub list_text : List MailRow → List ℕ
list_text entries =
    flat_map entry_line (take list_limit entries)
    ++ line ((if nat_lt list_limit (length entries) then codes "more" else codes "end") ∷ [])

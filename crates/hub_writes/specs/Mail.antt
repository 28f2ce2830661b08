-- Defines the values that a statement binds for a mailbox entry.
use Rattle.std.specs.Prelude.{◌<◌, ◌^◌, pos, [], ◌∷◌}
use Rattle.sqlite_value.specs.declared.value.Value.TheVariants.{Int, Blob}
use Rattle.sqlite_value.specs.Order.{Row}
use Rattle.hub_tables.specs.declared.rows.MailRow.{MailRow}

-- in the order of the columns
abbrev pub cells : MailRow → Row
cells row = Blob row.supplier ∷ Int (pos row.number) ∷ Int (pos row.moment) ∷ Int (pos row.decimal) ∷ Int (pos row.kind)
    ∷ Blob row.document ∷ Blob row.body ∷ Int (pos row.taken) ∷ []

-- each number fits a u64
abbrev pub IsLowMail : MailRow → Type 0
IsLowMail row = (row.number < 2 ^ 64) × (row.moment < 2 ^ 64) × (row.decimal < 2 ^ 64) × (row.kind < 2 ^ 64)
    × (row.taken < 2 ^ 64)

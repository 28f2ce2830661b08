-- Defines mailbox entries as a query finds them. A query compares numbers with their sign, so a negative one is below
-- zero.
use Rattle.std.specs.Prelude.{ℕ, ◌%◌, ◌^◌, ◌==◌, Bool, not, ◌&&◌, ◌||◌, nat_lt, List, filter, map, Option, None, option_map}
use Rattle.std.specs.List.{last_or}
use Rattle.hub_store.specs.Heads.{head_of}
use Rattle.hub_store.specs.declared.mail.MailHead.{MailHead}
use Rattle.hub_tables.specs.Rows.{same}
use Rattle.hub_tables.specs.State.{is_taken}
use Rattle.hub_tables.specs.Tables.{Tables, view}
use Rattle.hub_tables.specs.declared.rows.MailRow.{MailRow}

-- whether a cell that is read as this number is zero or less
abbrev pub is_low : ℕ → Bool
is_low n = (n == 0) || (nat_lt (2 ^ 65) n && (n % 2 == 1))

-- whether a number is above this one, as a query compares them
abbrev pub is_above : ℕ → ℕ → Bool
is_above bound n = nat_lt bound n && not (is_low n)

abbrev pub low_of : List ℕ → MailRow → Bool
low_of supplier entry = same entry.supplier supplier && is_low entry.number

abbrev pub above_of : List ℕ → ℕ → MailRow → Bool
above_of supplier bound entry = same entry.supplier supplier && is_above bound entry.number

-- what a list shows of the supplier's entries above a number that are not taken
abbrev pub untaken_heads : List ℕ → ℕ → Tables → List MailHead
untaken_heads supplier bound t =
    map head_of (filter (λ entry. is_above bound entry.number && not (is_taken entry)) (view supplier t).mail)

-- the number of the supplier's last entry above zero
abbrev pub highest : List ℕ → Tables → Option ℕ
highest supplier t =
    option_map (λ entry. entry.number) (last_or None (filter (λ entry. is_above 0 entry.number) (view supplier t).mail))

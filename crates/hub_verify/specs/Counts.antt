-- How many rows there are.
use Rattle.std.specs.Prelude.{◌≡◌, nat_lt, Bool, not, length, count_by}
use Rattle.hub_tables.specs.State.{is_announced, is_taken}
use Rattle.hub_tables.specs.Tables.{Tables}
use Rattle.hub_tables.specs.declared.rows.LineRow.{LineRow}
use Rattle.hub_tables.specs.declared.rows.PalletRow.{PalletRow}
use Rattle.hub_tables.specs.declared.rows.MailRow.{MailRow}
use Rattle.hub_verify.specs.declared.counts.Counts.{Counts}

-- something of the line is open
abbrev pub is_open : LineRow → Bool
is_open line = nat_lt 0 line.open_qty

abbrev pub is_received : PalletRow → Bool
is_received pallet = not (is_announced pallet)

abbrev pub is_untaken : MailRow → Bool
is_untaken entry = not (is_taken entry)

pub record AreCounts (t : Tables) (counts : Counts) : Type 0 where
  pub suppliers : counts.suppliers ≡ length t.keys
  pub orders : counts.orders ≡ length t.orders
  pub lines : counts.lines ≡ length t.lines
  pub open_lines : counts.open_lines ≡ count_by is_open t.lines
  pub pallets : counts.pallets ≡ length t.pallets
  pub received_pallets : counts.received_pallets ≡ count_by is_received t.pallets
  pub entries : counts.entries ≡ length t.mail
  pub untaken_entries : counts.untaken_entries ≡ count_by is_untaken t.mail
  pub remembered : counts.remembered ≡ length t.remembered

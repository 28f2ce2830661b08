-- Defines how a store in lists keeps its rows.
use Rattle.std.specs.Prelude.{ℕ, ◌+◌, ◌≤◌, true, vec_len, vec_capacity}
use Rattle.hub_tables.specs.Sets.{Rising}
use Rattle.hub_tables.specs.Tables.{Tables}
use Rattle.trial_lists.specs.Index.{IsIndex, entry_cmp, entry_key, is_untaken, owned_cmp, owned_key}
use Rattle.trial_lists.specs.declared.lists.Lists.{Lists}

-- the tables that the lists hold
abbrev pub tables_in : Lists → Tables
tables_in s = record {
  hubs = s.hubs.items;
  keys = s.keys.items;
  prefixes = s.prefixes.items;
  orders = s.orders.items;
  lines = s.lines.items;
  advices = s.advices.items;
  pallets = s.pallets.items;
  contents = s.contents.items;
  receipts = s.receipts.items;
  remembered = s.remembered.items;
  mail = s.mail.items;
}

-- the keys of each kind rise, and each index lists exactly the rows that it should
pub record AreInOrder (s : Lists) : Type 0 where
  pub rising : Rising (tables_in s)
  pub untaken : IsIndex entry_cmp (λ key. key.supplier) entry_key is_untaken s.untaken.items s.mail.items
  pub owned : IsIndex owned_cmp (λ key. key.supplier) owned_key (λ pallet. true) s.owned.items s.pallets.items

-- each list has room for `n` more rows
pub record Room (n : ℕ) (s : Lists) : Type 0 where
  pub hubs : vec_len s.hubs + n ≤ vec_capacity s.hubs
  pub keys : vec_len s.keys + n ≤ vec_capacity s.keys
  pub prefixes : vec_len s.prefixes + n ≤ vec_capacity s.prefixes
  pub orders : vec_len s.orders + n ≤ vec_capacity s.orders
  pub lines : vec_len s.lines + n ≤ vec_capacity s.lines
  pub advices : vec_len s.advices + n ≤ vec_capacity s.advices
  pub pallets : vec_len s.pallets + n ≤ vec_capacity s.pallets
  pub contents : vec_len s.contents + n ≤ vec_capacity s.contents
  pub receipts : vec_len s.receipts + n ≤ vec_capacity s.receipts
  pub remembered : vec_len s.remembered + n ≤ vec_capacity s.remembered
  pub mail : vec_len s.mail + n ≤ vec_capacity s.mail
  pub untaken : vec_len s.untaken + n ≤ vec_capacity s.untaken
  pub owned : vec_len s.owned + n ≤ vec_capacity s.owned

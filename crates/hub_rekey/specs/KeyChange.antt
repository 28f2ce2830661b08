-- Defines the tables with a changed key, and what a call that changes one does.
use Rattle.std.specs.Prelude.{◌≡◌, ◌⊎◌, ℕ, Bool, true, false, List, map, if◌then◌else◌, Result, Ok, OnErr, Option, Some, option_map}
use Rattle.hub_parties.specs.Rows.{RegisterRows, row_of}
use Rattle.hub_tables.specs.Register.{has_key}
use Rattle.hub_tables.specs.Rows.{same}
use Rattle.hub_tables.specs.Tables.{Tables}
use Rattle.hub_tables.specs.declared.change.Change.{Change}
use Rattle.hub_tables.specs.declared.change.Change.TheVariants.{SetHub, SetKey}
use Rattle.hub_tables.specs.declared.rows.HubRow.{HubRow}
use Rattle.hub_tables.specs.declared.rows.KeyRow.{KeyRow}
use Rattle.hub_store.specs.declared.fault.StoreFault.{StoreFault}
use Rattle.hub_store.specs.declared.store.Store.{Ghosts}
use Rattle.hub_rekey.specs.declared.key_change.KeyOwner.{KeyOwner}
use Rattle.hub_rekey.specs.declared.key_change.KeyOwner.TheVariants.{Retailer, Supplier}
use Rattle.hub_rekey.specs.declared.key_change.Rekeyed.{Rekeyed}
use Rattle.hub_rekey.specs.declared.key_change.Rekeyed.TheVariants.{Done, Unknown}

-- the hub's row with this key of its retailer
abbrev pub with_retailers : List ℕ → HubRow → HubRow
with_retailers key row = record row { key = key }

-- the supplier with this GLN gets this key, and every other supplier keeps its own
abbrev pub with_suppliers : List ℕ → List ℕ → KeyRow → KeyRow
with_suppliers gln key row = if same row.supplier gln then record row { key = key } else row

-- the tables with this one key changed, and nothing else
abbrev pub rekeyed : KeyOwner → List ℕ → Tables → Tables
rekeyed Retailer key t = record t { hubs = map (with_retailers key) t.hubs }
rekeyed (Supplier gln) key t = record t { keys = map (with_suppliers gln key) t.keys }

-- whether the hub has such a party
abbrev pub is_party : KeyOwner → Tables → Bool
is_party Retailer t = true
is_party (Supplier gln) t = has_key t.keys gln

-- the change that gives a party of a register the key, if it has this party
abbrev pub change_of : RegisterRows → KeyOwner → List ℕ → Option Change
change_of register Retailer key = Some (SetHub (record { hub = register.hub; retailer = register.retailer; key = key }))
change_of register (Supplier gln) key =
    option_map (λ row. SetKey (record { supplier = gln; key = key })) (row_of register gln)

-- The outcome of changing a key: it is changed, or there is no such party and the content stays. After a fault the
-- content stays too. A crash leaves the old key or the new one; once the key is changed, only the new one.
pub record Rekeys {S : Type 0} (g : Ghosts S) (old new : S) (owner : KeyOwner) (key : List ℕ)
    (result : Result Rekeyed StoreFault) : Type 0 where
  pub done : g.honest new → result ≡ Ok Done →
      (is_party owner (g.content old) ≡ true) × (g.content new ≡ rekeyed owner key (g.content old))
  pub durable : g.honest new → result ≡ Ok Done → (t : Tables) → g.left new t → t ≡ g.content new
  pub unknown : g.honest new → result ≡ Ok Unknown →
      (is_party owner (g.content old) ≡ false) × (g.content new ≡ g.content old)
  pub same : g.honest new → OnErr result (g.content new ≡ g.content old)
  pub crash : g.honest new → (t : Tables) → g.left new t → g.left old t ⊎ (t ≡ rekeyed owner key (g.content old))
  pub was_honest : g.honest new → g.honest old

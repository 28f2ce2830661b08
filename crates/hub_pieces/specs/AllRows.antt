-- What calls tell of rows that they do not change.
use Rattle.std.specs.Prelude.{◌≡◌, ◌⊎◌, Bool, true, List, Result, IfOk, IfErr, OnOk}
use Rattle.std.specs.List.{list_all}
use Rattle.hub_sound.specs.Finding.{RowKey}
use Rattle.hub_sound.specs.Showing.{FailsTest}
use Rattle.hub_store.specs.declared.fault.StoreFault.{StoreFault}
use Rattle.hub_store.specs.declared.fault.StoreFault.TheVariants as faults
use Rattle.hub_tables.specs.Tables.{Tables}
use Rattle.hub_pieces.specs.declared.all_rows.Read.{Read as Found}
use Rattle.hub_pieces.specs.declared.all_rows.Read.TheVariants.{Rows, Unclean}

-- memory ran out, or the rows could not be read: never what they hold, and never another version of the tables
abbrev pub IsReadFault : StoreFault → Type 0
IsReadFault fault = (fault ≡ faults.Memory) ⊎ (fault ≡ faults.Disk)

-- an answer is so of the rows, and they stay; a fault says nothing of the rows
pub record Tells {S X : Type 0} (content : S → Tables) (honest : S → Type 0) (says : Tables → X → Type 0) (old new : S)
    (result : Result X StoreFault) : Type 0 where
  pub answers : honest new → IfOk result (says (content old))
  pub stays : honest new → OnOk result (content new ≡ content old)
  pub was_honest : honest new → OnOk result (honest old)
  pub fails : IfErr result IsReadFault

-- these are the rows, each with the form of its kind; or the key is that of one without it
abbrev pub IsRead : {X : Type 0} → (X → RowKey) → (X → Bool) → List X → Found X → Type 0
IsRead key_of clean rows (Rows found) = (found ≡ rows) × (list_all clean rows ≡ true)
IsRead key_of clean rows (Unclean key) = FailsTest key_of clean rows key

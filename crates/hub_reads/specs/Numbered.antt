-- Defines what the look-up of the schema's number returns.
use Rattle.std.specs.Prelude.{◌≡◌, ◌⊎◌, ◌↔◌, ℕ, false, Bool, IsTrue, Result, Err, IfOk, IfErr, OnOk}
use Rattle.sqlite.specs.State.{State, HasCleanDisk, Survives}
use Rattle.hub_store.specs.declared.fault.StoreFault.{StoreFault}
use Rattle.hub_store.specs.declared.fault.StoreFault.TheVariants.{Memory, Disk}
use Rattle.hub_schema.specs.Schema.{old_schema, hub_schema}
use Rattle.hub_schema.specs.State.{HasNumber, Never, Spares}
use Rattle.hub_rows.specs.Asks.{HasDiskCause}

-- Whether the schema's number is exactly this, in the tables of a hub or in those of schema 1; there, a fault of the
-- disk has a cause. Nothing changes, even after a crash; after a fault, a transaction that was open may be undone.
pub record TellsNumber (n : ℕ) (old new : State) (result : Result Bool StoreFault) : Type 0 where
  pub number :
      HasCleanDisk new → (old.now.schema ≡ hub_schema) ⊎ (old.now.schema ≡ old_schema) →
      IfOk result (λ is. IsTrue is ↔ HasNumber n old.now.trees)
  pub same :
      HasCleanDisk new →
      OnOk result (IsTrue old.is_open × IsTrue new.is_open × (new.now ≡ old.now) × (new.committed ≡ old.committed))
  pub fault : IfErr result (λ fault. (fault ≡ Memory) ⊎ (fault ≡ Disk))
  pub disk :
      (old.now.schema ≡ hub_schema) ⊎ (old.now.schema ≡ old_schema) → HasCleanDisk new → result ≡ Err Disk →
      HasDiskCause old new
  pub leaves : HasCleanDisk new → Spares old new result
  pub mode : old.in_transaction ≡ false → new.in_transaction ≡ false
  pub crash : Survives old new Never

-- Defines what the statements for a list of changes do inside a transaction.
use Rattle.std.specs.Prelude.{◌≡◌, ◌⊎◌, ◌↔◌, ◌^◌, ◌++◌, ◌∷◌, nat_le, Bool, true, false, ◌||◌, IsTrue, List, Result}
use Rattle.std.specs.Prelude.{Err, OnOk, OnErr}
use Rattle.std.specs.List.{list_any}
use Rattle.sqlite.specs.State.{State, HasCleanDisk, KeepsCommit, Survives}
use Rattle.hub_tables.specs.Change.{apply_all}
use Rattle.hub_tables.specs.Sets.{Fit}
use Rattle.hub_tables.specs.Tables.{Tables}
use Rattle.hub_tables.specs.declared.change.Change.{Change}
use Rattle.hub_tables.specs.declared.rows.ContentRow.{ContentRow}
use Rattle.hub_tables.specs.declared.rows.MailRow.{MailRow}
use Rattle.hub_store.specs.Calls.{have_places}
use Rattle.hub_store.specs.declared.fault.StoreFault.{StoreFault}
use Rattle.hub_store.specs.declared.fault.StoreFault.TheVariants.{Unclean}
use Rattle.hub_schema.specs.Rows.{tables_in}
use Rattle.hub_schema.specs.State.{IsHub, IsUndone, Makes, Never, ShowsTheSame}

-- whether a content's place, or a mailbox entry's number, is too large for SQL
abbrev pub great_place : ContentRow → Bool
great_place row = nat_le (2 ^ 63) row.place

abbrev pub great_entry : MailRow → Bool
great_entry row = nat_le (2 ^ 63) row.number

-- whether some row has such a number
abbrev pub has_great : Tables → Bool
has_great t = list_any great_place t.contents || list_any great_entry t.mail

-- the changes before the failed one are made; the failed one and those after it have no effect
pub record MakesFirst (changes : List Change) (old new : State) : Type 0 where
  pub made : List Change
  pub failed : Change
  pub left : List Change
  pub are : changes ≡ made ++ failed ∷ left
  pub makes : IsHub old → Makes (apply_all made) old new
  pub is_open : new.is_open ≡ old.is_open

-- At Ok all changes are made, but only inside the transaction; they fit, and each row that is set existed before.
-- `Unclean` means that a key to be added exists already, that a row to be set does not exist, or that a number is too
-- large for SQL. After a fault the transaction is still open with the changes before the failed one, or it is undone;
-- if it had ended before, nothing is done at all. Nothing is committed at any time.
pub record Acts (changes : List Change) (old new : State) (result : Result (Unit {0}) StoreFault) : Type 0 where
  pub makes : HasCleanDisk new → IsHub old → IsTrue old.in_transaction → OnOk result (Makes (apply_all changes) old new)
  pub places :
      HasCleanDisk new → IsHub old → IsTrue old.in_transaction →
      OnOk result (have_places changes (tables_in old.now.trees) ≡ true)
  pub fits :
      HasCleanDisk new → IsHub old → IsTrue old.in_transaction → OnOk result (Fit changes (tables_in old.now.trees))
  pub unclean :
      HasCleanDisk new → result ≡ Err Unclean →
      (IsTrue old.is_open × (IsHub old → Fit changes (tables_in old.now.trees)
      → have_places changes (tables_in old.now.trees) ≡ true
      → has_great (apply_all changes (tables_in old.now.trees)) ≡ true))
      ⊎ ((t : Tables) → have_places changes t ≡ true → has_great (apply_all changes t) ≡ true)
  pub stands : HasCleanDisk new → OnOk result (IsTrue new.is_open × IsTrue new.in_transaction)
  pub fault :
      HasCleanDisk new → IsTrue old.in_transaction → OnErr result (MakesFirst changes old new ⊎ IsUndone old new)
  pub ended : old.in_transaction ≡ false → OnOk result ⊥ × ShowsTheSame old new
  pub kept : HasCleanDisk new → KeepsCommit old new
  pub survives : Survives old new Never

-- some of the changes are made, and `left` are still to be made
pub record IsUnderWay (all left : List Change) (old now : State) : Type 0 where
  pub hub : IsHub now
  pub tables : apply_all left (tables_in now.now.trees) ≡ apply_all all (tables_in old.now.trees)
  pub places : have_places left (tables_in now.now.trees) ≡ have_places all (tables_in old.now.trees)
  pub fits : Fit left (tables_in now.now.trees) ↔ Fit all (tables_in old.now.trees)
  pub committed : now.committed ≡ old.committed
  pub mode : IsTrue now.in_transaction

pub record HasRun (all left : List Change) (old now : State) : Type 0 where
  pub makes : HasCleanDisk now → IsHub old → IsUnderWay all left old now
  pub mode : IsTrue old.in_transaction
  pub stands : HasCleanDisk now → IsTrue old.is_open × IsTrue now.is_open × IsTrue now.in_transaction
  pub made : List Change
  pub are : all ≡ made ++ left
  pub first : HasCleanDisk now → IsHub old → tables_in now.now.trees ≡ apply_all made (tables_in old.now.trees)
  pub splits :
      (t : Tables) → (u : Tables) × (apply_all all t ≡ apply_all left u)
      × (have_places all t ≡ true → have_places left u ≡ true)
  pub kept : HasCleanDisk now → KeepsCommit old now
  pub survives : Survives old now Never

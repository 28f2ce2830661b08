-- Defines which changes belong to one supplier's rows, decided on what it sees.
use Rattle.std.specs.Prelude.{◌≡◌, ◌≢◌, ℕ, true, false, List, [], ◌∷◌, ⊤}
use Rattle.gs1_ids.specs.Sscc.{under_some}
use Rattle.hub_parties.specs.declared.row.SupplierRow.{SupplierRow}
use Rattle.hub_tables.specs.Change.{apply, apply_all}
use Rattle.hub_tables.specs.Tables.{Tables, has_pallet, view}
use Rattle.hub_tables.specs.declared.change.Change.{Change}
use Rattle.hub_tables.specs.declared.change.Change.TheVariants.{AddHub, SetHub, AddKey, SetKey, AddPrefix}
use Rattle.hub_tables.specs.declared.change.Change.TheVariants.{AddOrder, AddLine, SetLine, AddAdvice, AddPallet, SetPallet}
use Rattle.hub_tables.specs.declared.change.Change.TheVariants.{AddContent, AddReceipt, ClearReceipts, Remember, AddMail, SetMail}
use Rattle.hub_rules.specs.Laws.{PartiesStay}
use Rattle.hub_rules.specs.Sound.{IsOwn, Kept, Rooted}

-- The change concerns no hub row, no key and no prefix. Its row names the supplier; the SSCC of a new pallet is under
-- the supplier's prefixes and new; and a pallet that is set, that gets a content or a receipt, or whose receipts are
-- deleted from sound rows, is one of its own.
abbrev pub Belongs : SupplierRow → Tables → Change → Type 0
Belongs s state (AddHub row) = ⊥
Belongs s state (SetHub row) = ⊥
Belongs s state (AddKey row) = ⊥
Belongs s state (SetKey row) = ⊥
Belongs s state (AddPrefix row) = ⊥
Belongs s state (AddOrder row) = row.supplier ≡ s.gln
Belongs s state (AddLine row) = row.supplier ≡ s.gln
Belongs s state (SetLine row) = row.supplier ≡ s.gln
Belongs s state (AddAdvice row) = row.supplier ≡ s.gln
Belongs s state (AddPallet row) = (row.supplier ≡ s.gln) × (under_some row.sscc s.prefixes ≡ true) × (has_pallet state row.sscc ≡ false)
Belongs s state (SetPallet row) = (row.supplier ≡ s.gln) × (has_pallet state row.sscc ≡ true)
Belongs s state (AddContent row) = has_pallet state row.sscc ≡ true
Belongs s state (AddReceipt row) = has_pallet state row.sscc ≡ true
Belongs s state (ClearReceipts sscc) = (has_pallet state sscc ≡ true) × Kept state
Belongs s state (Remember row) = row.supplier ≡ s.gln
Belongs s state (AddMail row) = row.supplier ≡ s.gln
Belongs s state (SetMail row) = row.supplier ≡ s.gln

-- each change belongs, on what the earlier ones left
abbrev pub BelongAll : SupplierRow → Tables → List Change → Type 0
BelongAll s state [] = ⊤
BelongAll s state (change ∷ changes) = Belongs s state change × BelongAll s (apply change state) changes

-- The supplier sees its changes applied to what it saw, no one else sees them, the register is the same, and the tables
-- still keep suppliers apart.
pub record ChangesFollow (suppliers : List SupplierRow) (s : SupplierRow) (t after : Tables) (changes : List Change) : Type 0 where
  pub seen : view s.gln after ≡ apply_all changes (view s.gln t)
  pub unseen : (other : List ℕ) → other ≢ s.gln → view other after ≡ view other t
  pub parties : PartiesStay t after
  pub rooted : Rooted suppliers after

-- the changes belong to the supplier, and keep its rows its own and sound
pub record KeepsSupplier (s : SupplierRow) (state : Tables) (changes : List Change) : Type 0 where
  pub belong : BelongAll s state changes
  pub own : IsOwn s.gln (apply_all changes state)
  pub kept : Kept (apply_all changes state)

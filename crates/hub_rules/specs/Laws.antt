-- Defines what follows from the rules: what holds after changes that they accept.
use Rattle.std.specs.Prelude.{◌≡◌, ◌≢◌, ◌↔◌, ℕ, List, [], ◌∷◌, Some}
use Rattle.gs1_ids.specs.Overlap.{PrefixFree}
use Rattle.hub_parties.specs.KeyOrder.{Rises, put}
use Rattle.hub_parties.specs.Rows.{company_prefixes, supplier_row}
use Rattle.hub_parties.specs.declared.row.SupplierRow.{SupplierRow}
use Rattle.hub_tables.specs.Change.{apply_all}
use Rattle.hub_tables.specs.Register.{HoldsRegister, supplier_cmp, suppliers_of, row_at, row_changes}
use Rattle.hub_tables.specs.Rows.{hub_cmp, key_cmp, prefix_cmp}
use Rattle.hub_tables.specs.Tables.{Tables, view}
use Rattle.hub_tables.specs.declared.change.Change.{Change}
use Rattle.hub_tables.specs.State.{remembered_of}
use Rattle.hub_tables.specs.declared.change.Change.TheVariants.{Remember}
use Rattle.hub_tables.specs.declared.rows.RememberedRow.{RememberedRow}
use Rattle.hub_rules.specs.RepeatRules.{Reference, remembered}
use Rattle.hub_rules.specs.declared.verdict.Verdict.{Verdict}
use Rattle.hub_rules.specs.declared.verdict.Verdict.TheVariants.{Accept}
use Rattle.hub_rules.specs.Sound.{IsOwn, Kept, Sound}

-- the rows all belong to the supplier, and are sound
pub record KeptOwn (s : SupplierRow) (state : Tables) : Type 0 where
  pub own : IsOwn s.gln state
  pub kept : Kept state

-- the tables hold a register, and are sound with its suppliers
pub record SoundHub (t : Tables) : Type 0 where
  pub register : HoldsRegister t
  pub sound : Sound (suppliers_of t) t

-- no prefix of one supplier begins a prefix of another, and the tables are sound: all that a single act needs
pub record SoundUnder (suppliers : List SupplierRow) (t : Tables) : Type 0 where
  pub free : PrefixFree (company_prefixes suppliers)
  pub sound : Sound suppliers t

-- the keys of the hub's row, the suppliers' keys and the prefixes rise strictly
pub record PartiesRise (t : Tables) : Type 0 where
  pub hubs : Rises hub_cmp t.hubs
  pub keys : Rises key_cmp t.keys
  pub prefixes : Rises prefix_cmp t.prefixes

-- no prefix of one supplier begins a prefix of another, the supplier is registered, and the tables are sound
pub record Registered (suppliers : List SupplierRow) (s : SupplierRow) (t : Tables) : Type 0 where
  pub free : PrefixFree (company_prefixes suppliers)
  pub known : supplier_row suppliers s.gln ≡ Some s
  pub sound : Sound suppliers t

-- the hub's row, the keys and the prefixes stay the same, and so does the register
pub record PartiesStay (t after : Tables) : Type 0 where
  pub hubs : after.hubs ≡ t.hubs
  pub keys : after.keys ≡ t.keys
  pub prefixes : after.prefixes ≡ t.prefixes

-- Afterwards the supplier sees exactly `own`, no one else sees any change, the register is the same, and the tables are
-- sound.
pub record Apart (suppliers : List SupplierRow) (s : SupplierRow) (t after own : Tables) : Type 0 where
  pub seen : view s.gln after ≡ own
  pub unseen : (other : List ℕ) → other ≢ s.gln → view other after ≡ view other t
  pub parties : PartiesStay t after
  pub sound : Sound suppliers after

-- The supplier has joined tables that hold a register: it is one more supplier, it sees what it saw before with its key
-- and its prefixes added, no one else sees any change, each supplier that was found by its GLN still is, and the tables
-- are sound.
pub record JoinedBy (row : SupplierRow) (t after : Tables) : Type 0 where
  pub seen : view row.gln after ≡ apply_all (row_changes row) (view row.gln t)
  pub unseen : (other : List ℕ) → other ≢ row.gln → view other after ≡ view other t
  pub hubs : after.hubs ≡ t.hubs
  pub suppliers : suppliers_of after ≡ put supplier_cmp row (suppliers_of t)
  pub known : row_at row.gln after ≡ Some row
  pub stays : (gln : List ℕ) (s : SupplierRow) → row_at gln t ≡ Some s → row_at gln after ≡ Some s
  pub sound : SoundHub after

-- changes to one supplier's rows do not affect what the others see
abbrev pub KeepsApart : List SupplierRow → SupplierRow → Tables → List Change → Type 0
KeepsApart suppliers s t changes = Apart suppliers s t (apply_all changes t) (apply_all changes (view s.gln t))

-- the same content is remembered under the reference
pub record IsRemembered (state : Tables) (r : Reference) (content : List ℕ) : Type 0 where
  pub row : RememberedRow
  pub found : remembered_of state r.side r.control r.message ≡ Some row
  pub says : row.content ≡ content

-- If a message is accepted with changes, the first of them remembers it. It is accepted without changes exactly if it
-- is admitted and the same content is already remembered.
pub record Remembers (r : Reference) (content : List ℕ) (admitted : Type 0) (state : Tables)
    (verdict : Verdict) : Type 0 where
  pub first : (change : Change) (changes : List Change) →
      verdict ≡ Accept (change ∷ changes) → change ≡ Remember (remembered r content)
  pub repeated : (verdict ≡ Accept []) ↔ (admitted × IsRemembered state r content)

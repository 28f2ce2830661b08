-- Defines what the calls of a store do. Five functions describe a store: its content; whether the storage below it has
-- been honest, that is, has returned what was written; what a crash now may leave; the fault for which it is broken, if
-- any; and whether it is plain, with nothing below it.
use Rattle.std.specs.Prelude.{◌≡◌, ◌≢◌, ◌⊎◌, ◌&&◌, Bool, true, false, IsTrue, List, [], ◌∷◌, Option, None, Some}
use Rattle.std.specs.Prelude.{Result, Ok, Err, IfOk}
use Rattle.std.specs.Prelude.{IfErr, OnOk, OnErr}
use Rattle.std.specs.List.{list_any}
use Rattle.std.specs.Option.{IfSome}
use Rattle.hub_parties.specs.Rows.{RegisterRows}
use Rattle.hub_tables.specs.Change.{apply, apply_all}
use Rattle.hub_tables.specs.Register.{HoldsRegister, register_of}
use Rattle.hub_tables.specs.Rows.{same_hub, same_key, same_line, same_pallet, same_mail}
pub use Rattle.hub_tables.specs.Sets.{Fit}
use Rattle.hub_tables.specs.Tables.{Tables}
use Rattle.hub_tables.specs.declared.change.Change.{Change}
use Rattle.hub_tables.specs.declared.change.Change.TheVariants.{SetHub, SetKey, SetLine, SetPallet, SetMail}
use Rattle.hub_store.specs.Clean.{are_clean}
use Rattle.hub_store.specs.declared.fault.LastingFault.{LastingFault}
use Rattle.hub_store.specs.declared.fault.LastingFault.TheVariants as lasting
use Rattle.hub_store.specs.declared.fault.StoreFault.{StoreFault}
use Rattle.hub_store.specs.declared.fault.StoreFault.TheVariants.{Memory, Disk, Unclean, Version}

-- the fault that a broken store returns
abbrev pub fault_of : LastingFault → StoreFault
fault_of lasting.Disk = Disk
fault_of lasting.Unclean = Unclean

-- the fault for which a store is broken after it returned this one
abbrev pub broken_by : Option LastingFault → StoreFault → Option LastingFault
broken_by before Memory = before
broken_by before Disk = Some lasting.Disk
broken_by before Unclean = Some lasting.Unclean
broken_by before Version = before

abbrev pub broken_after : {X : Type 0} → Option LastingFault → Result X StoreFault → Option LastingFault
broken_after before (Ok x) = before
broken_after before (Err fault) = broken_by before fault

-- How a call fails: a broken store returns its fault again; `Memory` breaks no store; `Version` is reported by opening
-- alone; and a plain store has no other fault than `Memory`.
pub record Fails {X : Type 0} (plain : Bool) (old new : Option LastingFault) (result : Result X StoreFault)
    : Type 0 where
  pub again : IfSome old (λ fault. result ≡ Err (fault_of fault))
  pub after : new ≡ broken_after old result
  pub not_version : IfErr result (λ fault. fault ≢ Version)
  pub only_memory : IsTrue plain → IfErr result (λ fault. fault ≡ Memory)

-- A look-up: what it returns, that the content stays, and that a crash may leave no more than before. A store that is
-- not broken returns `Unclean` only if some row does not have the form of its kind.
pub record Looks {S X : Type 0} (content : S → Tables) (honest : S → Type 0) (left : S → Tables → Type 0)
    (broken : S → Option LastingFault) (old new : S) (answer : X) (result : Result X StoreFault) : Type 0 where
  pub answers : honest new → IfOk result (λ x. x ≡ answer)
  pub content_stays : honest new → content new ≡ content old
  pub left_stays : honest new → (t : Tables) → left new t → left old t
  pub was_honest : honest new → honest old
  pub unclean : honest new → broken old ≡ None → result ≡ Err Unclean → are_clean (content old) ≡ false

-- A read of the register, whatever rows there are: if one is returned, the rows hold one, and it is theirs. The content
-- stays, and a crash may leave no more than before. A broken store returns its fault again. It fails like any call,
-- except that the store may be unbroken after `Unclean`.
pub record ReadsRegister {S : Type 0} (content : S → Tables) (honest : S → Type 0) (left : S → Tables → Type 0)
    (broken : S → Option LastingFault) (plain : Bool) (old new : S) (result : Result RegisterRows StoreFault)
    : Type 0 where
  pub held : honest new → IfOk result (λ register. HoldsRegister (content old) × (register ≡ register_of (content old)))
  pub content_stays : honest new → content new ≡ content old
  pub left_stays : honest new → (t : Tables) → left new t → left old t
  pub was_honest : honest new → honest old
  pub again : IfSome (broken old) (λ fault. result ≡ Err (fault_of fault))
  pub fails : result ≢ Err Unclean → Fails plain (broken old) (broken new) result

-- a row that is set replaces an existing one
abbrev pub has_place : Change → Tables → Bool
has_place (SetHub row) t = list_any (same_hub row) t.hubs
has_place (SetKey row) t = list_any (same_key row) t.keys
has_place (SetLine row) t = list_any (same_line row) t.lines
has_place (SetPallet row) t = list_any (same_pallet row) t.pallets
has_place (SetMail row) t = list_any (same_mail row) t.mail
has_place change t = true

-- each does, when its turn comes
abbrev pub have_places : List Change → Tables → Bool
have_places [] t = true
have_places (change ∷ changes) t = has_place change t && have_places changes (apply change t)

-- A commit: at Ok all changes are made if they fit, and after a fault none is, whether they fit or not. After Ok a
-- crash leaves the new content; after a fault it leaves what it did before or, if the changes fit, the content with all
-- of them. A store that is not broken returns `Unclean` only if some row does not have the form of its kind, before the
-- changes or after them, or if they do not fit or set a row that does not exist. The outcome of all changes counts: a
-- row that a later change puts right is no cause.
pub record Commits {S X : Type 0} (content : S → Tables) (honest : S → Type 0) (left : S → Tables → Type 0)
    (broken : S → Option LastingFault) (old new : S) (changes : List Change)
    (result : Result X StoreFault) : Type 0 where
  pub done : honest new → Fit changes (content old) → OnOk result (content new ≡ apply_all changes (content old))
  pub kept : honest new → OnErr result (content new ≡ content old)
  pub durable : honest new → OnOk result ((t : Tables) → left new t → t ≡ content new)
  pub crash : honest new →
      OnErr result ((t : Tables) → left new t →
      left old t ⊎ (Fit changes (content old) × (t ≡ apply_all changes (content old))))
  pub was_honest : honest new → honest old
  pub unclean : honest new → broken old ≡ None → result ≡ Err Unclean → Fit changes (content old) →
      have_places changes (content old) ≡ true →
      (are_clean (content old) ≡ false) ⊎ (are_clean (apply_all changes (content old)) ≡ false)

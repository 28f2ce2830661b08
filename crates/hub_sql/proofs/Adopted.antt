-- Proves what a store holds that takes over a connection with tables.
use Rattle.std.proofs.Common.{◌≡◌, ◌≢◌, ◌⊎◌, inl, inr, true, IsTrue, IsSome, [], ◌∷◌, None, Result, Ok, Err, IfOk, refl, sym, ap, subst}
use Rattle.std.proofs.Common.{◌∙◌, ◌≤◌, arith}
use Rattle.sqlite.specs.Effect.{Database}
use Rattle.sqlite.specs.Held.{Held, state}
use Rattle.sqlite.specs.Schema.{Schema}
use Rattle.sqlite.specs.State.{State, HasCleanDisk}
use Rattle.sqlite_trees.specs.Tree.{Trees}
use Rattle.sqlite_trees.specs.declared.store.Store.{Ghosts}
use Rattle.hub_founding.specs.Founding.{HoldsNone}
use Rattle.hub_tables.specs.Register.{HoldsRegister}
use Rattle.hub_tables.specs.Tables.{Tables}
use Rattle.hub_schema.specs.Rows.{tables_in}
use Rattle.hub_schema.specs.Schema.{hub_schema}
use Rattle.hub_schema.specs.State.{AreOrdered, HasNumber, IsFounded, LooksAmong}
use Rattle.hub_store.specs.declared.fault.StoreFault.{StoreFault}
use Rattle.hub_store.specs.declared.fault.StoreFault.TheVariants.{Memory, Disk, Unclean, Version}
use Rattle.hub_rows.specs.Asks.{HasDiskCause}
use Rattle.hub_rows.proofs.Causes.{more_faults}
use Rattle.hub_sql.specs.Opening.{Adopts, CountsOn, ComesBack, ComesOpen, ComesWith, Refuses, IsAsBefore, IsKnown, IsSpared}
use Rattle.hub_sql.specs.Opening.{MayBeRaised, MayBeRenumbered}
use Rattle.hub_sql.specs.Opening.{SparesConnection, StaysShut}
use Rattle.hub_sql.specs.declared.returned.Returned.{Returned}
use Rattle.hub_sql.specs.declared.returned.Returned.TheVariants.{Connection, Store}
use Rattle.hub_sql.specs.Stored.{Stored, HoldsRows, content, left, honest}
use Rattle.hub_sql.specs.Version.{AreRising, AreShaped, HoldsHub, HoldsTables, number_of, schema_of}
use Rattle.hub_sql.specs.declared.version.Version.{Version as Stage}
use Rattle.hub_sql.specs.declared.version.Version.TheVariants.{First, Second, Third}
use Rattle.hub_sql.proofs.Sparing.{IsAnew, same_trees, spared_anew, spared_ever}

-- a crash leaves the rows of an idle connection
pub left_alone : {S : Type 0} (g : Ghosts S) (h : Held S)
    → ((trees : Trees) → IsTrue (state g h).is_open → (state g h).may_leave trees → trees ≡ (state g h).committed.trees)
    → (IsTrue (state g h).is_open → (state g h).now ≡ (state g h).committed) → IsTrue (state g h).is_open
    → (t : Tables) → left g (record { held = h; fault = None; past = (h, true) ∷ [] }) t → t ≡ tables_in (state g h).now.trees
left_alone g h settled idle up t (inl e) = e
left_alone g h settled idle up t (inr it) = it.2 ∙ ap tables_in (settled it.0 up it.1 ∙ ap (λ d. d.trees) (sym (idle up)))

-- what holds the rows of a connection that is as it was before holds the rows that it had before
pub rows_held_before : {S E : Type 0} (g : Ghosts S) (was now : State) (rows : Trees → Tables) (r : Result (Stored S) E)
    → (HasCleanDisk now → IsAsBefore was now) → (HasCleanDisk now → HasCleanDisk was)
    → IfOk r (HoldsRows g now (rows now.now.trees)) → IfOk r (HoldsRows g was (rows was.now.trees))
rows_held_before g was now rows (Ok store) same clean it = record {
  whole = it.whole;
  rows_are = λ honest. it.rows_are honest ∙ ap (λ d. rows d.trees) (same (it.clean honest)).shown;
  crash = it.crash;
  clean = λ honest. clean (it.clean honest);
}
rows_held_before g was now rows (Err e) same clean it = tt

-- the tables of every version but schema 1 are a hub's
pub holds_hub : (version : Stage) (db : Database) → version ≢ First → HoldsTables version db → HoldsHub db
holds_hub First db later it = absurd (later refl)
holds_hub Second db later it = inl it
holds_hub Third db later it = inr it

pub later_hub : (version : Stage) → version ≢ First → schema_of version ≡ hub_schema
later_hub First later = absurd (later refl)
later_hub Second later = refl
later_hub Third later = refl

-- and in each of them the row numbers rise
pub hub_shaped : (version : Stage) (trees : Trees) → version ≢ First → AreShaped version trees → AreOrdered trees
hub_shaped First trees later it = absurd (later refl)
hub_shaped Second trees later it = it
hub_shaped Third trees later it = it

-- so they rise if they did when the connection was first looked at
pub rise_as_before : (was now : State) → was.now.schema ≡ hub_schema → IsAsBefore was now
    → AreRising was.now.trees was.now.schema.tables → AreOrdered now.now.trees
rise_as_before was now has same rise =
    subst (λ (db : Database). AreOrdered db.trees) (sym same.shown) (subst (λ (s : Schema). AreRising was.now.trees s.tables) has rise)

-- a version that is neither schema 1 nor schema 2 has the number of schema 3
pub third_number : (version : Stage) (db : Database) → version ≢ First → version ≢ Second
    → HasNumber (number_of version) db.trees → HasNumber 3 db.trees
third_number First db later other it = absurd (later refl)
third_number Second db later other it = absurd (other refl)
third_number Third db later other it = it

-- a look-up leaves the connection as it was
pub as_it_was : {X : Type 0} (schema : Schema) (Are : State → Type 0) (says : Tables → X → Type 0) (spoilt : Tables → Type 0)
    (old new : State) (x : X) → LooksAmong schema Are says spoilt old new (Ok x) → HasCleanDisk new → IsAsBefore old new
as_it_was schema Are says spoilt old new x looks clean = record {
  shown = (looks.same clean).2;
  committed = (looks.leaves clean).done.committed;
  crash = λ trees left. elim (looks.crash.crash clean trees left) [
    | inl before ↦ before
    | inr never ↦ absurd never
  ];
}

-- a connection looked at twice is as it was
pub as_before_then : (was mid now : State) → IsAsBefore was mid → IsAsBefore mid now → IsAsBefore was now
as_before_then was mid now one two = record {
  shown = two.shown ∙ one.shown;
  committed = two.committed ∙ one.committed;
  crash = λ trees left. one.crash trees (two.crash trees left);
}

-- the tables are those that the connection had when it was first looked at
pub held_before : (version : Stage) (was mid now : State) → IsAsBefore was mid
    → HoldsTables version mid.now × IsAsBefore mid now → HoldsTables version was.now × IsAsBefore was now
held_before version was mid now one two =
    (subst (HoldsTables version) one.shown two.0, as_before_then was mid now one two.1)

pub held_neither : (was mid now : State) → (¬ HoldsTables Third was.now) × IsAsBefore was mid
    → (¬ HoldsTables Second mid.now) × IsAsBefore mid now → (¬ HoldsHub was.now) × IsAsBefore was now
held_neither was mid now one two = (
  λ holds. elim holds [
    | inl second ↦ two.0 (subst (HoldsTables Second) (sym one.1.shown) second)
    | inr third ↦ one.0 third
  ],
  as_before_then was mid now one.1 two.1,
)

-- a fault that is not one of the others is `Disk`
pub of_disk : (fault : StoreFault) → fault ≢ Version → fault ≢ Memory → fault ≢ Unclean → fault ≡ Disk
of_disk Memory known memory unclean = absurd (memory refl)
of_disk Disk known memory unclean = refl
of_disk Unclean known memory unclean = absurd (unclean refl)
of_disk Version known memory unclean = absurd (known refl)

-- if nothing comes back for which this holds, everything holds of what does
pub never_comes : {S : Type 0} (g : Ghosts S) (so : State → Type 0) (back : Returned S) → ComesWith g back (λ _. ⊥)
    → ComesWith g back so
never_comes g so (Connection conn) none = λ clean. absurd (none clean)
never_comes g so (Store store) none = none

-- two looks, one after another
pub counted_on : (was mid now : State) → CountsOn was mid → CountsOn mid now → CountsOn was now
counted_on was mid now one two = record {
  faults = omega (arith, one.faults, two.faults);
  opened = two.opened ∙ one.opened;
  limit = two.limit ∙ one.limit;
}

-- storage that stays shut after the connection was looked at also does so for the connection before
pub stays_shut : {S : Type 0} (g : Ghosts S) (was mid : State) (version : Stage) (store : S) (fault : StoreFault)
    → mid.committed ≡ was.committed → was.faults ≤ mid.faults
    → StaysShut g mid version store fault → StaysShut g was version store fault
stays_shut g was mid version store fault same counts (inl broken) = inl broken
stays_shut g was mid version store fault same counts (inr (inl lacks)) = inr (inl lacks)
stays_shut g was mid version store fault same counts (inr (inr it)) = inr (inr (
  it.0,
  record {
    error = it.1.error;
    rows = it.1.rows ∙ ap (λ d. d.trees) same;
    counted = omega (arith, counts, it.1.counted);
    fails = it.1.fails;
    is = it.1.is;
  },
))

-- a cause that arose after the connection was looked at is also one from before
pub cause_passed : (was mid now : State) → CountsOn was mid → HasDiskCause mid now → HasDiskCause was now
cause_passed was mid now counts (inl more) = inl (more_faults counts.faults more)
cause_passed was mid now counts (inr (inl shut)) = inr (inl (sym counts.opened ∙ shut))
cause_passed was mid now counts (inr (inr limited)) = inr (inr (subst IsSome counts.limit limited))

-- the tables are not a hub's
pub refused_version : {S : Type 0} {g : Ghosts S} {was : State} {conn : Held S} {fault : StoreFault}
    → (fault ≡ Version → HasCleanDisk (state g conn) → ¬ HoldsHub was.now × IsAsBefore was (state g conn))
    → (was.now.schema ≢ hub_schema → fault ≡ Version) → fault ≢ Unclean
    → (fault ≡ Disk → HasCleanDisk (state g conn) → HasDiskCause was (state g conn))
    → SparesConnection g ⊥ (λ _. ⊥) was conn
    → Refuses g was (Connection conn) fault
refused_version {conn = conn} {fault = fault} refuses other unclean disk spared = record {
  version = λ is. (conn, refl, refuses is);
  other = other;
  number = λ none known memory clean. let is = of_disk fault known memory unclean in (is, disk is clean);
  unclean = λ is. absurd (unclean is);
  usable = (Third, (λ is. cc, tt));
  spared = spared_ever spared;
}

-- once the tables are known to be a hub's, `Version` is not reported any more
pub refused_later : {S : Type 0} {g : Ghosts S} {was : State} {back : Returned S} {fault : StoreFault}
    → was.now.schema ≡ hub_schema → fault ≢ Version
    → ((¬ HoldsHub was.now) → ComesWith g back (λ _. ⊥))
    → (fault ≡ Unclean → ComesBack g back (λ now. HoldsNone (tables_in was.committed.trees)) × IsSpared g ⊥ (λ _. ⊥) was back)
    → ((version : Stage) × ((version ≢ First) × ComesOpen g was version back fault))
    → IsSpared g ((fault ≡ Disk) × IsKnown was) (MayBeRaised was) was back
    → Refuses g was back fault
refused_later {g = g} {back = back} has opened holds unclean usable spared = record {
  version = λ is. absurd (opened is);
  other = λ hub. absurd (hub has);
  number = λ none known memory. never_comes g _ back (holds none);
  unclean = unclean;
  usable = usable;
  spared = spared;
}

-- the connection was opened again
module _ {S : Type 0} {g : Ghosts S} {was : State} {version : Stage} {mid conn : Held S} (anew : IsAnew g version was mid conn)
    (later : version ≢ First) where
  pub adopted : {s : Stored S}
      → s.fault ≡ None → (honest g s → content g s ≡ tables_in (state g conn).now.trees)
      → (honest g s → HoldsRegister (tables_in (state g conn).now.trees))
      → (honest g s → (t : Tables) → left g s t → t ≡ content g s) → (honest g s → HasCleanDisk (state g conn))
      → Adopts g was s
  adopted whole same register crash clean = record {
    whole = whole;
    hub = λ honest. holds_hub version was.now later (anew.holds (anew.early (clean honest))).0;
    rows = λ honest. same honest ∙ ap tables_in (same_trees anew (clean honest));
    holds = λ honest. subst HoldsRegister (sym (same honest)) (register honest);
    crash = crash;
    clean = λ honest. anew.clean (anew.early (clean honest));
  }

  -- no register is held, so none was
  none_was : HasCleanDisk (state g conn) → HoldsNone (tables_in (state g conn).now.trees) → HoldsNone (tables_in was.committed.trees)
  none_was clean none = subst (λ (rows : Trees). HoldsNone (tables_in rows)) (same_trees anew clean) none

  -- what a crash may leave now, it could leave of the connection as it was
  may_be_raised : HasCleanDisk (state g conn) → (db : Trees) → MayBeRenumbered version (tables_in (state g conn).now.trees) db
      → MayBeRaised was db
  may_be_raised clean db made = (
    subst (λ (v : Stage). HoldsTables v was.now) made.0 (anew.holds (anew.early clean)).0,
    subst (λ (rows : Trees). IsFounded (tables_in rows) db) (same_trees anew clean) made.1,
  )

  -- only after a fault of the disk may the schema read differ from the version's
  reread : (fault : StoreFault) → (conn.schema ≡ hub_schema) ⊎ (fault ≡ Disk)
      → (conn.schema ≡ schema_of version) ⊎ ((fault ≡ Disk) × IsKnown was)
  reread fault (inl same) = inl (same ∙ sym (later_hub version later))
  reread fault (inr disk) = inr (disk, (version, anew.known))

  pub refused_anew : {back : Held S} {fault : StoreFault} → fault ≢ Version → (conn.schema ≡ hub_schema) ⊎ (fault ≡ Disk)
      → (fault ≡ Unclean → (HasCleanDisk (state g back) → HoldsNone (tables_in (state g conn).now.trees))
      × SparesConnection g ⊥ (λ _. ⊥) (state g conn) back)
      → SparesConnection g ⊥ (MayBeRenumbered version (tables_in (state g conn).now.trees)) (state g conn) back
      → Refuses g was (Connection back) fault
  refused_anew {back = back} {fault = fault} opened read unclean spared =
      refused_later (anew.known ∙ later_hub version later) opened
      (λ none clean. none (holds_hub version was.now later (anew.holds (anew.early (spared.clean clean))).0))
      (λ is. let none = unclean is in (
        (back, refl, λ clean. none_was (spared.clean clean) (none.0 clean)),
        spared_anew anew
            (elim read [ inl same ↦ inl (same ∙ sym (later_hub version later)) | inr disk ↦ absurd (let bad = sym is ∙ disk in cc) ])
            (λ clean trees never. never) none.1,
      ))
      (version, (later, tt))
      (spared_anew anew (reread fault read) (λ clean. may_be_raised (spared.clean clean)) spared)

-- Proves what founding a hub leaves in a database of schema 1, beside its rows.
use Rattle.std.proofs.Common.{◌≡◌, ◌≢◌, ◌⊎◌, inl, inr, List, [], true, false, None, refl, sym, ap, subst, ◌∙◌}
use Rattle.sqlite.specs.Effect.{Database}
use Rattle.sqlite.specs.Held.{Held, state}
use Rattle.sqlite.specs.Schema.{Schema}
use Rattle.sqlite.specs.State.{State, HasCleanDisk}
use Rattle.sqlite_trees.specs.Tree.{Trees}
use Rattle.sqlite_trees.specs.declared.store.Store.{Ghosts}
use Rattle.hub_founding.specs.Fits.{fits, founded_beside}
use Rattle.hub_parties.specs.Rows.{RegisterRows}
use Rattle.hub_tables.specs.Register.{HoldsRegister}
use Rattle.hub_tables.specs.Tables.{Tables}
use Rattle.hub_schema.specs.Rows.{traffic_in}
use Rattle.hub_schema.specs.Schema.{no_schema}
use Rattle.hub_store.specs.declared.fault.StoreFault.{StoreFault}
use Rattle.hub_store.specs.declared.fault.StoreFault.TheVariants.{Memory, Disk, Unclean, Version}
use Rattle.hub_parties.specs.declared.row.SupplierRow.{SupplierRow}
use Rattle.hub_rows.specs.Asks.{HasDiskCause}
use Rattle.hub_rules.specs.Laws.{SoundHub}
use Rattle.hub_rules.specs.Sound.{Sound}
use Rattle.hub_sql.specs.Founding.{FailsReopened, Founds, IsOfFounding, MayBeBeside, MayBeFounded, RefusesFounding, Stood}
use Rattle.hub_sql.specs.Opening.{ComesBack, ComesOpen, ComesWith, IsAsBefore, IsKnown, IsSpared}
use Rattle.hub_sql.specs.Opening.{SparesConnection}
use Rattle.hub_sql.specs.Stored.{Stored, content, left, honest}
use Rattle.hub_sql.specs.Version.{AreRising, AreShaped, HoldsTables, schema_of}
use Rattle.hub_sql.specs.declared.fault.FoundFault.{FoundFault}
use Rattle.hub_sql.specs.declared.fault.FoundFault.TheVariants as found
use Rattle.hub_sql.specs.declared.returned.Returned.{Returned}
use Rattle.hub_sql.specs.declared.returned.Returned.TheVariants.{Connection}
use Rattle.hub_sql.specs.declared.version.Version.TheVariants.{First}
use Rattle.hub_sql.proofs.Adopted.{of_disk, never_comes}
use Rattle.hub_sql.proofs.Sparing.{IsAnew, same_trees, spared_anew, spared_ever}

-- the row numbers of its tables rise if they did when the connection was first looked at
pub shaped_as_before : (was now : State) → was.now.schema ≡ schema_of First → IsAsBefore was now
    → AreRising was.now.trees was.now.schema.tables → AreShaped First now.now.trees
shaped_as_before was now has same rise =
    subst (λ (db : Database). AreShaped First db.trees) (sym same.shown)
    (subst (λ (s : Schema). AreRising was.now.trees s.tables) has rise)

-- equal faults of founding have equal faults of the store
pub same_fault : (a b : StoreFault) → found.Store a ≡ found.Store b → a ≡ b
same_fault a b e = cc

-- the tables are not those of schema 1
pub refused_version : {S : Type 0} {g : Ghosts S} {register : RegisterRows} {was : State} {conn : Held S} {fault : StoreFault}
    → was.now.schema ≢ no_schema
    → (fault ≡ Version → HasCleanDisk (state g conn) → ¬ HoldsTables First was.now × IsAsBefore was (state g conn))
    → (was.now.schema ≢ schema_of First → fault ≡ Version) → fault ≢ Unclean
    → (fault ≡ Disk → HasCleanDisk (state g conn) → HasDiskCause was (state g conn))
    → SparesConnection g ⊥ (λ _. ⊥) was conn
    → RefusesFounding g register was (Connection conn) (found.Store fault)
refused_version {was = was} {conn = conn} {fault = fault} tables refuses other unclean disk spared = record {
  version = λ is. (
    conn,
    refl,
    λ clean.
        let it = refuses (same_fault fault Version is) clean in (
          λ before stood. elim stood [ inl none ↦ tables none.0 | inr old ↦ it.0 old.0 ],
          it.1,
        ),
  );
  other = λ some others. ap found.Store (other others);
  number = λ none known memory clean.
      let is = of_disk fault (λ e. known (ap found.Store e)) (λ e. memory (ap found.Store e)) unclean in
      (ap found.Store is, disk is clean);
  rows = λ is. absurd cc;
  unfit = λ first lacks rows memory clean.
      let known : fault ≢ Version = λ is. (refuses is clean).0 first in
      inl (disk (of_disk fault known (λ e. memory (ap found.Store e)) unclean) clean);
  unclean = λ is. unclean (same_fault fault Unclean is);
  usable = λ why is. tt;
  spared = spared_ever spared;
}

-- they are, so `Version` is not reported any more
pub refused_old : {S : Type 0} {g : Ghosts S} {register : RegisterRows} {was : State} {back : Returned S} {fault : FoundFault}
    → was.now.schema ≡ schema_of First → IsOfFounding fault
    → (((before : Tables) → ¬ Stood was before) → ComesWith g back (λ _. ⊥))
    → (HoldsTables First was.now → fits register (traffic_in was.committed.trees) ≡ false →
    fault ≢ found.Rows → fault ≢ found.Store Memory → FailsReopened g was back)
    → ((why : StoreFault) → fault ≡ found.Store why → ComesOpen g was First back why)
    → (fault ≡ found.Rows → ComesBack g back (λ now. HoldsTables First was.now
    × (fits register (traffic_in was.committed.trees) ≡ false) × (now.now.schema ≡ was.now.schema)))
    → IsSpared g ((fault ≡ found.Store Disk) × IsKnown was) (MayBeFounded register was) was back
    → RefusesFounding g register was back fault
refused_old {g = g} {back = back} has which holds unfit usable rows spared = record {
  version = λ is. absurd (elim which [ inl e ↦ cc | inr (inl e) ↦ cc | inr (inr e) ↦ cc ]);
  other = λ some others. absurd (others has);
  number = λ none known memory. never_comes g _ back (holds none);
  rows = rows;
  unfit = unfit;
  unclean = λ is. elim which [ inl e ↦ cc | inr (inl e) ↦ cc | inr (inr e) ↦ cc ];
  usable = usable;
  spared = spared;
}

-- the connection was opened again
module _ {S : Type 0} {g : Ghosts S} {was : State} {mid conn : Held S} (anew : IsAnew g First was mid conn)
    (register : RegisterRows) where
  pub migrates : {s : Stored S} → s.fault ≡ None
      → (honest g s → fits register (traffic_in (state g conn).now.trees) ≡ true)
      → (honest g s → content g s ≡ founded_beside (traffic_in (state g conn).now.trees) register)
      → ((t : Tables) → t.hubs ≡ [] → t.keys ≡ [] → t.prefixes ≡ [] → HoldsRegister (founded_beside t register))
      → ((suppliers : List SupplierRow) (t : Tables) → t.hubs ≡ [] → t.keys ≡ [] → t.prefixes ≡ [] → Sound suppliers t
      → fits register t ≡ true → SoundHub (founded_beside t register))
      → (honest g s → (t : Tables) → left g s t → t ≡ content g s) → (honest g s → HasCleanDisk (state g conn))
      → Founds g register was s
  migrates whole fit rows holds sound crash clean = record {
    before = traffic_in was.committed.trees;
    whole = whole;
    stood = λ honest. inr ((anew.holds (anew.early (clean honest))).0, refl);
    fit = λ honest. subst (λ (rows : Trees). fits register (traffic_in rows) ≡ true) (same_trees anew (clean honest)) (fit honest);
    rows = λ honest. rows honest ∙ ap (λ (rows : Trees). founded_beside (traffic_in rows) register) (same_trees anew (clean honest));
    holds = λ honest. subst HoldsRegister (sym (rows honest)) (holds (traffic_in (state g conn).now.trees) refl refl refl);
    sound = λ honest suppliers start.
        subst SoundHub (sym (rows honest))
        (sound suppliers (traffic_in (state g conn).now.trees) refl refl refl
        (subst (λ (rows : Trees). Sound suppliers (traffic_in rows)) (sym (same_trees anew (clean honest))) start) (fit honest));
    crash = crash;
    clean = λ honest. anew.clean (anew.early (clean honest));
  }

  -- what a crash may leave now, it could leave of the connection as it was
  may_be_founded : HasCleanDisk (state g conn) → (db : Trees) → MayBeBeside (traffic_in (state g conn).now.trees) register db
      → MayBeFounded register was db
  may_be_founded clean db made = (
    traffic_in was.committed.trees,
    inr ((anew.holds (anew.early clean)).0, refl),
    subst (λ (rows : Trees). MayBeBeside (traffic_in rows) register db) (same_trees anew clean) made,
  )

  -- only after a fault of the disk may the schema read differ from schema 1
  reread : {Disks : Type 0} → (conn.schema ≡ schema_of First) ⊎ Disks → (conn.schema ≡ schema_of First) ⊎ (Disks × IsKnown was)
  reread (inl same) = inl same
  reread (inr disk) = inr (disk, (First, anew.known))

  pub refused_anew : {back : Held S} {fault : FoundFault} → IsOfFounding fault
      → (conn.schema ≡ schema_of First) ⊎ (fault ≡ found.Store Disk)
      → (HasCleanDisk (state g back) → fits register (traffic_in (state g conn).now.trees) ≡ false
      → fault ≢ found.Rows → fault ≢ found.Store Memory
      → (conn.schema ≢ schema_of First) ⊎ HasDiskCause (state g conn) (state g back))
      → (fault ≡ found.Rows → HasCleanDisk (state g back)
      → (back.schema ≡ schema_of First) × (fits register (traffic_in (state g conn).now.trees) ≡ false))
      → SparesConnection g ⊥ (MayBeBeside (traffic_in (state g conn).now.trees) register) (state g conn) back
      → RefusesFounding g register was (Connection back) fault
  refused_anew {back = back} {fault = fault} which read unfit none spared =
      refused_old anew.known which
      (λ nothing clean. nothing (traffic_in was.committed.trees) (inr ((anew.holds (anew.early (spared.clean clean))).0, refl)))
      (λ first lacks rows memory clean.
      let early = spared.clean clean in inr (
        conn,
        anew.ready early,
        same_trees anew early,
        anew.limit,
        unfit clean (subst (λ (rows : Trees). fits register (traffic_in rows) ≡ false) (sym (same_trees anew early)) lacks) rows memory,
      ))
      (λ why is. tt)
      (λ is. (
        back,
        refl,
        λ clean.
            let early = spared.clean clean in (
              (anew.holds (anew.early early)).0,
              subst (λ (rows : Trees). fits register (traffic_in rows) ≡ false) (same_trees anew early) (none is clean).1,
              (none is clean).0 ∙ sym anew.known,
            ),
      ))
      (spared_anew anew (reread read) (λ clean. may_be_founded (spared.clean clean)) spared)

-- Shows that no committed row is lost in what comes back with a fault.
use Rattle.std.proofs.Common.{◌≡◌, ◌⊎◌, inl, inr, ℕ, Bool, true, false, IsTrue, Ok, Err, Result, refl, sym, ap}
use Rattle.std.proofs.Common.{◌∙◌, arith}
use Rattle.sqlite_trees.specs.Tree.{Trees}
use Rattle.sqlite_trees.specs.View.{IsClean, IsQuiet, IsRolledBack}
use Rattle.sqlite_trees.specs.declared.store.Store.{Ghosts}
use Rattle.sqlite.specs.Held.{Held, state}
use Rattle.sqlite.specs.State.{State, HasCleanDisk, Survives}
use Rattle.sql_rows.proofs.Transactions.{clean_before}
use Rattle.hub_store.specs.declared.fault.StoreFault.{StoreFault}
use Rattle.hub_reads.specs.Numbered.{TellsNumber}
use Rattle.hub_parties.specs.Rows.{RegisterRows}
use Rattle.hub_tables.specs.Tables.{Tables}
use Rattle.hub_founding.specs.Fits.{fits, founded_beside}
use Rattle.sqlite.specs.Schema.{Schema}
use Rattle.hub_schema.specs.State.{IsUndone, FoundsTo, LooksAmong, ShowsTheSame, Spares}
use Rattle.hub_sql.specs.Founding.{MayBeBeside}
use Rattle.hub_sql.specs.Opening.{LeftAfter, MayBeRenumbered, SparesConnection, SparesStore, IsAsBefore, IsReady}
use Rattle.hub_sql.specs.Version.{HoldsTables, schema_of}
use Rattle.hub_sql.specs.declared.version.Version.{Version}
use Rattle.hub_sql.specs.declared.version.Version.TheVariants.{Second}

module _ {S : Type 0} (g : Ghosts S) where
  -- an idle connection that is not shut shows what is committed
  abbrev pub ShowsCommitted : Held S → Type 0
  ShowsCommitted h = IsTrue (state g h).is_open → (state g h).now ≡ (state g h).committed

  module _ (was new : Held S) (settled : ShowsCommitted was) (idle : new.in_transaction ≡ false) where
    -- everything is as it was, or undone
    shown : ShowsTheSame (state g was) (state g new) ⊎ IsUndone (state g was) (state g new) → IsTrue (state g new).is_open
        → ((state g new).now ≡ (state g was).committed) × ((state g new).now ≡ (state g was).now)
    shown (inl same) up = (same.rows ∙ settled (sym same.is_open ∙ up), same.rows)
    shown (inr back) up = (back.rows up, back.rows up ∙ sym (settled (back.was_open up)))

    pub spared_so : {P : Trees → Type 0} (MayBe : Trees → Type 0) → Survives (state g was) (state g new) P
        → (HasCleanDisk (state g new) → (trees : Trees) → P trees → LeftAfter MayBe (state g was) trees)
        → (HasCleanDisk (state g new) → IsTrue (state g new).is_open
        → ShowsTheSame (state g was) (state g new) ⊎ IsUndone (state g was) (state g new))
        → SparesConnection g ⊥ MayBe (state g was) new
    spared_so {P} MayBe survives more shows = record {
      idle = idle;
      limit = survives.limit;
      clean = clean_before (state g was) (state g new) P survives;
      rows = λ clean up. ap (λ d. d.trees) (shown (shows clean up) up).0;
      schema = λ clean up. inl (ap (λ d. d.schema) (shown (shows clean up) up).1);
      crash = λ clean trees left. elim (survives.crash clean trees left) [
        | inl before ↦ inl before
        | inr made ↦ more clean trees made
      ];
    }

  either_way : {X E : Type 0} (old new : State) (r : Result X E) → Spares old new r → ShowsTheSame old new ⊎ IsUndone old new
  either_way old new (Ok x) it = inl it.done
  either_way old new (Err e) it = it.fault

  -- the schema's number was read, or was not
  pub spared_number : (number : ℕ) (was new : Held S) (r : Result Bool StoreFault) → ShowsCommitted was
      → was.in_transaction ≡ false
      → TellsNumber number (state g was) (state g new) r → SparesConnection g ⊥ (λ _. ⊥) (state g was) new
  spared_number number was new r settled idle it =
      spared_so was new settled (it.mode idle) (λ _. ⊥) it.crash (λ _ trees none. absurd none)
      (λ clean up. either_way (state g was) (state g new) r (it.leaves clean))

  -- its rows were looked up
  pub spared_looked : {X : Type 0} (schema : Schema) (Are : State → Type 0) (says : Tables → X → Type 0)
      (spoilt : Tables → Type 0) (was new : Held S) (r : Result X StoreFault) → ShowsCommitted was → was.in_transaction ≡ false
      → LooksAmong schema Are says spoilt (state g was) (state g new) r → SparesConnection g ⊥ (λ _. ⊥) (state g was) new
  spared_looked schema Are says spoilt was new r settled idle it =
      spared_so was new settled (it.mode idle) (λ _. ⊥) it.crash (λ _ trees none. absurd none)
      (λ clean up. either_way (state g was) (state g new) r (it.leaves clean))

  -- the connection itself comes back
  pub spared_itself : (MayBe : Trees → Type 0) (h : Held S) → ShowsCommitted h → h.in_transaction ≡ false
      → SparesConnection g ⊥ MayBe (state g h) h
  spared_itself MayBe h settled idle = record {
    idle = idle;
    limit = refl;
    clean = λ clean. clean;
    rows = λ clean up. ap (λ d. d.trees) (settled up);
    schema = λ clean up. inl refl;
    crash = λ clean trees left. inl left;
  }

  -- more may be left
  pub spared_more : {A B : Type 0} (MayBe May : Trees → Type 0) (was : State) (conn : Held S)
      → (A → B)
      → ((trees : Trees) → MayBe trees → May trees)
      → SparesConnection g A MayBe was conn → SparesConnection g B May was conn
  spared_more MayBe May was conn other may it = record {
    idle = it.idle;
    limit = it.limit;
    clean = it.clean;
    rows = it.rows;
    schema = λ clean up. elim (it.schema clean up) [ inl same ↦ inl same | inr another ↦ inr (other another) ];
    crash = λ clean trees left. elim (it.crash clean trees left) [
      | inl before ↦ inl before
      | inr (inl committed) ↦ inr (inl committed)
      | inr (inr made) ↦ inr (inr (may trees made))
    ];
  }

  -- a founding failed in tables that existed before
  pub spared_founding : (asked : Type 0) (before : Tables) (register : RegisterRows) (was new : Held S) (fault : StoreFault)
      → ShowsCommitted was → (HasCleanDisk (state g was) → asked)
      → (HasCleanDisk (state g was) → fits register before ≡ true)
      → FoundsTo asked (founded_beside before register) (state g was) (state g new) (Err fault)
      → SparesConnection g ⊥ (MayBeBeside before register) (state g was) new
  spared_founding asked before register was new fault settled so fit it =
      let early = clean_before (state g was) (state g new) _ it.crash in
      spared_so was new settled it.mode (MayBeBeside before register) it.crash
      (λ clean trees made. inr (inr (fit (early clean), made (so (early clean)))))
      (λ clean up. inl (it.kept clean (so (early clean)) up))

  -- the number of schema 2 was not set
  pub spared_number_set : (asked : Type 0) (rows : Tables) (was new : Held S) (fault : StoreFault) → ShowsCommitted was
      → (HasCleanDisk (state g was) → asked) → FoundsTo asked rows (state g was) (state g new) (Err fault)
      → SparesConnection g ⊥ (MayBeRenumbered Second rows) (state g was) new
  spared_number_set asked rows was new fault settled so it =
      let early = clean_before (state g was) (state g new) _ it.crash in
      spared_so was new settled it.mode (MayBeRenumbered Second rows) it.crash
      (λ clean trees made. inr (inr (refl, made (so (early clean)))))
      (λ clean up. inl (it.kept clean (so (early clean)) up))

  -- the connection was closed, which undoes what was not committed
  pub spared_below : (conn : Held S) (store : S) → IsRolledBack (g.view conn.store) (g.view store)
      → IsQuiet g.view g.faults g.recovers g.is_shielded conn.store store → SparesStore g (state g conn) store
  spared_below conn store undone quiet = record {
    clean = λ clean. omega (arith, quiet.clean);
    rows = λ clean up. (undone.undone up).0;
    crash = λ clean trees left. quiet.outcomes trees left;
  }

  -- and its storage could not be opened again
  pub spared_again : (was : State) (store back : S) → SparesStore g was store
      → IsQuiet g.view g.faults g.recovers g.is_shielded store back
      → (IsClean (g.view back) → IsTrue (g.view back).is_open → (g.view back).trees ≡ (g.view store).trees)
      → (IsClean (g.view store) → IsTrue (g.view store).is_open) → SparesStore g was back
  spared_again was store back it quiet same up = record {
    clean = λ clean. it.clean (omega (arith, quiet.clean));
    rows = λ clean now.
        let early : IsClean (g.view store) = omega (arith, quiet.clean) in
        same clean now ∙ it.rows early (up early);
    crash = λ clean trees left. it.crash (omega (arith, quiet.clean)) trees (quiet.outcomes trees left);
  }

  -- of a connection that was as it had been before
  pub spared_before : (was : State) (mid : Held S) (store : S)
      → (HasCleanDisk (state g mid) → IsAsBefore was (state g mid)) → (HasCleanDisk (state g mid) → HasCleanDisk was)
      → SparesStore g (state g mid) store → SparesStore g was store
  spared_before was mid store before early it = record {
    clean = λ clean. early (it.clean clean);
    rows = λ clean up. it.rows clean up ∙ ap (λ d. d.trees) (before (it.clean clean)).committed;
    crash = λ clean trees left. (before (it.clean clean)).crash trees (it.crash clean trees left);
  }

  -- the connection comes back after it was looked at
  pub spared_through : {Another : Type 0} (MayBe : Trees → Type 0) (was mid back : Held S)
      → (HasCleanDisk (state g mid) → IsAsBefore (state g was) (state g mid))
      → (HasCleanDisk (state g mid) → HasCleanDisk (state g was)) → mid.step_limit ≡ was.step_limit
      → SparesConnection g Another MayBe (state g mid) back → SparesConnection g Another MayBe (state g was) back
  spared_through MayBe was mid back before early limit it = record {
    idle = it.idle;
    limit = it.limit ∙ limit;
    clean = λ clean. early (it.clean clean);
    rows = λ clean up. it.rows clean up ∙ ap (λ d. d.trees) (before (it.clean clean)).committed;
    schema = λ clean up.
        let shown = ap (λ d. d.schema) (before (it.clean clean)).shown in
        elim (it.schema clean up) [
          | inl same ↦ inl (same ∙ shown)
          | inr another ↦ inr another
        ];
    crash = λ clean trees left. elim (it.crash clean trees left) [
      | inl now ↦ inl ((before (it.clean clean)).crash trees now)
      | inr (inl committed) ↦ inr (inl (committed ∙ ap (λ d. d.trees) (before (it.clean clean)).committed))
      | inr (inr made) ↦ inr (inr made)
    ];
  }

-- nothing else may be left, if nothing else might be
pub spared_ever : {S : Type 0} {g : Ghosts S} {Another : Type 0} {May : Trees → Type 0} {was : State} {conn : Held S}
    → SparesConnection g ⊥ (λ _. ⊥) was conn → SparesConnection g Another May was conn
spared_ever {g = g} {May = May} {was = was} {conn = conn} it =
    spared_more g (λ _. ⊥) May was conn (λ never. absurd never) (λ trees never. absurd never) it

-- The tables of a connection were found to be of a version, and nothing changed while they were looked at. After that
-- it was opened again, and has the rows that were committed.
pub record IsAnew {S : Type 0} (g : Ghosts S) (version : Version) (was : State) (mid conn : Held S) : Type 0 where
  pub known : was.now.schema ≡ schema_of version
  pub holds : HasCleanDisk (state g mid) → HoldsTables version was.now × IsAsBefore was (state g mid)
  pub clean : HasCleanDisk (state g mid) → HasCleanDisk was
  pub early : HasCleanDisk (state g conn) → HasCleanDisk (state g mid)
  pub rows : HasCleanDisk (state g conn) → (state g conn).now.trees ≡ (state g mid).committed.trees
  pub limit : conn.step_limit ≡ was.step_limit
  pub ready : HasCleanDisk (state g conn) → IsReady (state g conn)
  pub settled :
      (db : Trees) → IsTrue (state g conn).is_open → (state g conn).may_leave db → db ≡ (state g conn).committed.trees

-- a connection that was just opened need not be opened again
pub opened_now : {S : Type 0} {g : Ghosts S} {version : Version} {was : State} {conn : Held S}
    → was.now.schema ≡ schema_of version
    → (HasCleanDisk (state g conn) → HoldsTables version was.now × IsAsBefore was (state g conn))
    → (HasCleanDisk (state g conn) → HasCleanDisk was)
    → conn.step_limit ≡ was.step_limit
    → (HasCleanDisk (state g conn) → IsReady (state g conn))
    → ((db : Trees) → IsTrue (state g conn).is_open → (state g conn).may_leave db → db ≡ (state g conn).committed.trees)
    → IsAnew g version was conn conn
opened_now known holds clean limit ready settled = record {
  known = known;
  holds = holds;
  clean = clean;
  early = λ clean. clean;
  rows = λ clean. ap (λ d. d.trees) (ready clean).shown;
  limit = limit;
  ready = ready;
  settled = settled;
}

module _ {S : Type 0} {g : Ghosts S} {version : Version} {was : State} {mid conn : Held S} (anew : IsAnew g version was mid conn) where
  pub same_trees : HasCleanDisk (state g conn) → (state g conn).now.trees ≡ was.committed.trees
  same_trees clean = anew.rows clean ∙ ap (λ d. d.trees) (anew.holds (anew.early clean)).1.committed

  -- the connection comes back after it was opened again
  pub spared_anew : {Another : Type 0} {MayBe May : Trees → Type 0} {back : Held S}
      → (conn.schema ≡ schema_of version) ⊎ Another
      → (HasCleanDisk (state g back) → (trees : Trees) → MayBe trees → May trees)
      → SparesConnection g ⊥ MayBe (state g conn) back → SparesConnection g Another May was back
  spared_anew read may it =
      let same : HasCleanDisk (state g conn) → (state g conn).committed.trees ≡ was.committed.trees =
      λ (clean : HasCleanDisk (state g conn)). ap (λ d. d.trees) (sym (anew.ready clean).shown) ∙ same_trees clean in
      record {
        idle = it.idle;
        limit = it.limit ∙ anew.limit;
        clean = λ clean. anew.clean (anew.early (it.clean clean));
        rows = λ clean up. it.rows clean up ∙ same (it.clean clean);
        schema = λ clean up. elim read [
          | inl same ↦ elim (it.schema clean up) [ inl stays ↦ inl (stays ∙ same ∙ sym anew.known) | inr never ↦ absurd never ]
          | inr another ↦ inr another
        ];
        crash = λ clean trees left. elim (it.crash clean trees left) [
          | inl before ↦ inr (inl (anew.settled trees (anew.ready (it.clean clean)).up before ∙ same (it.clean clean)))
          | inr (inl committed) ↦ inr (inl (committed ∙ same (it.clean clean)))
          | inr (inr made) ↦ inr (inr (may clean trees made))
        ];
      }

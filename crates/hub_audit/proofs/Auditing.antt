-- What is found of a database, as it is known of an earlier state of the connection.
use Rattle.std.proofs.Common.{◌≡◌, Result, Ok, Err, IfOk, subst}
use Rattle.sqlite.specs.Effect.{Database}
use Rattle.sqlite.specs.Files.{file_state}
use Rattle.sqlite.specs.Held.{Held}
use Rattle.sqlite.specs.State.{State, HasCleanDisk}
use Rattle.sqlite_disk.specs.declared.Disk as disk
use Rattle.sqlite_store.specs.declared.store.FileStore.{FileStore}
use Rattle.sqlite_wal.specs.Recovery.{Image}
use Rattle.hub_schema.specs.Rows.{tables_in}
use Rattle.hub_sql.specs.File.{IsOver}
use Rattle.hub_sql.specs.Opening.{IsAsBefore}
use Rattle.hub_sql.specs.Version.{HoldsTables}
use Rattle.hub_sql.specs.declared.version.Version.{Version}
use Rattle.hub_sql.specs.declared.version.Version.TheVariants.{Third}
use Rattle.hub_store.specs.declared.fault.StoreFault.{StoreFault}
use Rattle.hub_audit.specs.Audit.{IsAudit, Audits, Checks}
use Rattle.sqlite.specs.Held.{state}
use Rattle.sqlite_trees.specs.declared.store.Store.{Ghosts}
use Rattle.hub_audit.specs.File.{ChecksFile}
use Rattle.hub_audit.specs.declared.audit.Audit.{Audit}
use Rattle.hub_audit.specs.declared.audit.Audit.TheVariants.{Sound, Unclean, Unsound, Earlier}

-- rows of schema 3
of_third : (db : Database) (audit : Audit) → HoldsTables Third db → IsAudit (tables_in db.trees) audit → Audits db audit
of_third db (Sound counts) holds it = (holds, it)
of_third db (Unclean found) holds it = (holds, it)
of_third db (Unsound found) holds it = (holds, it)
of_third db (Earlier number) holds it = absurd it

-- of a connection that was given on as it was, `now`
module _ {S : Type 0} (g : Ghosts S) (was now : State) where
  pub third_audited : (version : Version) → version ≡ Third
      → (HasCleanDisk now → HoldsTables version was.now × IsAsBefore was now) → (HasCleanDisk now → HasCleanDisk was)
      → (result : Result (Audit × Held S) StoreFault)
      → IfOk result (λ found. HasCleanDisk (state g found.1) →
      HasCleanDisk now × IsAudit (tables_in now.now.trees) found.0
      × (tables_in (state g found.1).now.trees ≡ tables_in now.now.trees))
      → IfOk result (λ found. HasCleanDisk (state g found.1) → Checks was (state g found.1) found.0)
  third_audited version third holds before (Ok found) h =
      λ clean.
      let it = h clean in
      let as_before = holds it.0 in
      record {
        clean = before it.0;
        audits = of_third was.now found.0 (subst (λ v. HoldsTables v was.now) third as_before.0)
            (subst (λ (db : Database). IsAudit (tables_in db.trees) found.0) as_before.1.shown it.1);
        same = subst (λ (db : Database). tables_in (state g found.1).now.trees ≡ tables_in db.trees) as_before.1.shown it.2;
      }
  third_audited version third holds before (Err fault) h = tt

  pub earlier_audited : (HasCleanDisk now → IsAsBefore was now) → (HasCleanDisk now → HasCleanDisk was)
      → (result : Result (Audit × Held S) StoreFault)
      → IfOk result (λ found. HasCleanDisk (state g found.1) → Checks now (state g found.1) found.0)
      → IfOk result (λ found. HasCleanDisk (state g found.1) → Checks was (state g found.1) found.0)
  earlier_audited as_before before (Ok found) h =
      λ clean.
      let it = h clean in
      let shown = (as_before it.clean).shown in
      record {
        clean = before it.clean;
        audits = subst (λ (db : Database). Audits db found.0) shown it.audits;
        same = subst (λ (db : Database). tables_in (state g found.1).now.trees ≡ tables_in db.trees) shown it.same;
      }
  earlier_audited as_before before (Err fault) h = tt

-- of a connection that was opened over files
module _ {D : Type 0} {g : disk.Ghosts D} (image : Image) (conn : Held (FileStore D g)) (over : IsOver image conn) where
  pub file_checked : (result : Result (Audit × Held (FileStore D g)) StoreFault)
      → IfOk result (λ found. HasCleanDisk (file_state found.1) → Checks (file_state conn) (file_state found.1) found.0)
      → IfOk result (ChecksFile image)
  file_checked (Ok found) h = (conn, over, h)
  file_checked (Err fault) h = tt

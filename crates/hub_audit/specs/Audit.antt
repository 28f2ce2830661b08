-- What a database holds.
use Rattle.std.specs.Prelude.{◌≡◌, ◌⊎◌, true, false}
use Rattle.sqlite.specs.Effect.{Database}
use Rattle.sqlite.specs.State.{State, HasCleanDisk}
use Rattle.hub_schema.specs.Rows.{tables_in}
use Rattle.hub_sound.specs.HubRules.Laws.{SoundHub}
use Rattle.hub_sound.specs.Showing.{ShowsUnclean, ShowsUnsound}
use Rattle.hub_sql.specs.Version.{HoldsTables}
use Rattle.hub_sql.specs.declared.version.Version.TheVariants.{First, Second, Third}
use Rattle.hub_store.specs.Clean.{are_clean}
use Rattle.hub_tables.specs.Sets.{Rising}
use Rattle.hub_tables.specs.Tables.{Tables}
use Rattle.hub_verify.specs.Counts.{AreCounts}
use Rattle.hub_audit.specs.declared.audit.Audit.{Audit}
use Rattle.hub_audit.specs.declared.audit.Audit.TheVariants.{Sound, Unclean, Unsound, Earlier}

-- rows that are a sound start, with how many there are; or a row that shows they are not
abbrev pub IsAudit : Tables → Audit → Type 0
IsAudit t (Sound counts) = (are_clean t ≡ true) × SoundHub t × AreCounts t counts
IsAudit t (Unclean found) = (are_clean t ≡ false) × ShowsUnclean t found.kind found.key
IsAudit t (Unsound found) = (are_clean t ≡ true) × (¬ SoundHub t) × ShowsUnsound t found.kind found.key
IsAudit t (Earlier number) = ⊥

-- if the keys of each kind rise, as they do in a database
abbrev pub IsAuditIfRising : Tables → Audit → Type 0
IsAuditIfRising t audit = Rising t → IsAudit t audit

-- the rows of a database of schema 3, or the number of an earlier schema
abbrev pub Audits : Database → Audit → Type 0
Audits db (Earlier number) = ((number ≡ 1) × HoldsTables First db) ⊎ ((number ≡ 2) × HoldsTables Second db)
Audits db audit = HoldsTables Third db × IsAudit (tables_in db.trees) audit

-- A connection was checked: the disk had returned what was written to it, this is found of the database that it showed,
-- and afterwards it shows the same rows.
pub record Checks (was now : State) (audit : Audit) : Type 0 where
  pub clean : HasCleanDisk was
  pub audits : Audits was.now audit
  pub same : tables_in now.now.trees ≡ tables_in was.now.trees

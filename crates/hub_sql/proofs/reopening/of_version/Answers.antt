use Rattle.std.proofs.Common.{◌≡◌, ◌≢◌, ◌⊎◌, ℕ, Bool, inl, inr, Ok, Err, IsTrue, refl, rules, sym, ap, subst, ◌∙◌, true≢false}
use Rattle.sqlite.specs.Schema.{Schema}
use Rattle.hub_schema.specs.Schema.{hub_schema, old_schema}
use Rattle.hub_sql.specs.Version.{schema_of}
use Rattle.hub_sql.specs.declared.version.Version.{Version}
use Rattle.hub_sql.specs.declared.version.Version.TheVariants.{First, Second, Third}
use Rattle.sqlite.specs.Held.{state}
use Rattle.sqlite.specs.State.{State, HasCleanDisk}
use Rattle.sql_rows.proofs.Transactions.{clean_before}
use Rattle.hub_reads.specs.Numbered.{TellsNumber}
use Rattle.hub_schema.specs.State.{HasNumber}
use Rattle.hub_store.specs.declared.fault.StoreFault.{StoreFault}
use Rattle.hub_store.specs.declared.fault.StoreFault.TheVariants.{Memory, Disk, Unclean, Version as OtherVersion}
use Rattle.hub_sql.specs.Opening.{IsAsBefore}
use Rattle.hub_sql.proofs.Moving.{ready_as_before}
use Rattle.hub_sql.proofs.Sparing.{spared_itself, spared_number}
use Rattle.hub_sql.proofs.reopening.of_version.Goals as goal

pub returns-then-not-is_of-clause-spared : goal.returns-then-not-is_of-clause-spared
returns-then-not-is_of-clause-spared g c =
    let idle : IsTrue c.is_autocommit-was_idle.result = search rules in
    spared_itself g.S.Store (λ _. ⊥) c.args.conn (c.is_autocommit-was_idle.ensures.settled idle) c.requires.idle

pub returns-in-Ok-false-clause-spared : goal.returns-in-Ok-false-clause-spared
returns-in-Ok-false-clause-spared g c =
    let idle : IsTrue c.is_autocommit-was_idle.result = search rules in
    spared_number g.S.Store _ c.args.conn c.is_numbered.new.conn c.is_numbered.result
    (c.is_autocommit-was_idle.ensures.settled idle) c.requires.idle c.is_numbered.ensures.number

pub returns-in-Err-clause-spared : goal.returns-in-Err-clause-spared
returns-in-Err-clause-spared g c =
    let idle : IsTrue c.is_autocommit-was_idle.result = search rules in
    spared_number g.S.Store _ c.args.conn c.is_numbered.new.conn c.is_numbered.result
    (c.is_autocommit-was_idle.ensures.settled idle) c.requires.idle c.is_numbered.ensures.number

pub returns-in-Ok-true-clause-ready : goal.returns-in-Ok-true-clause-ready
returns-in-Ok-true-clause-ready g c clean ready =
    let same = c.in-Ok-true.ensures.number.same clean in
    ready_as_before (state g.S.Store c.args.conn) (state g.S.Store c.is_numbered.new.conn) same.2 same.3 same.1 ready

pub returns-in-Ok-false-clause-stays : goal.returns-in-Ok-false-clause-stays
returns-in-Ok-false-clause-stays g c is clean ready =
    let same = c.in-Ok-false.ensures.number.same clean in
    ready_as_before (state g.S.Store c.args.conn) (state g.S.Store c.is_numbered.new.conn) same.2 same.3 same.1 ready

-- the schema of a version is one of two
either : (version : Version) (schema : Schema) → schema ≡ schema_of version → (schema ≡ hub_schema) ⊎ (schema ≡ old_schema)
either First schema is = inr is
either Second schema is = inl is
either Third schema is = inl is

-- neither is a fault of asking for the number
not_version : (fault : StoreFault) → (fault ≡ Memory) ⊎ (fault ≡ Disk) → fault ≢ OtherVersion
not_version fault fails = search rules

not_unclean : (fault : StoreFault) → (fault ≡ Memory) ⊎ (fault ≡ Disk) → fault ≢ Unclean
not_unclean fault fails = search rules

-- asking for the number leaves the connection as it was
as_asked : (n : ℕ) (old new : State) (is : Bool) → TellsNumber n old new (Ok is) → HasCleanDisk new → IsAsBefore old new
as_asked n old new is asked clean = record {
  shown = (asked.same clean).2;
  committed = (asked.same clean).3;
  crash = λ trees left. elim (asked.crash.crash clean trees left) [
    | inl before ↦ before
    | inr never ↦ absurd never
  ];
}

pub returns-then-not-is_of-clause-refuses : goal.returns-then-not-is_of-clause-refuses
returns-then-not-is_of-clause-refuses g c is clean = (
  λ holds. true≢false (sym (c.is_of.ensures.1 (c.schema.ensures.value ∙ holds.0)) ∙ c.if-not-is_of.true),
  record { shown = refl; committed = refl; crash = λ trees left. left },
)

pub returns-in-Ok-true-clause-schema : goal.returns-in-Ok-true-clause-schema
returns-in-Ok-true-clause-schema g c = sym c.schema.ensures.value ∙ c.is_of.ensures.0 c.if-not-is_of.false

pub returns-in-Ok-true-clause-clean : goal.returns-in-Ok-true-clause-clean
returns-in-Ok-true-clause-clean g c =
    clean_before (state g.S.Store c.args.conn) (state g.S.Store c.is_numbered.new.conn) _ c.in-Ok-true.ensures.number.crash

pub returns-in-Ok-true-clause-holds : goal.returns-in-Ok-true-clause-holds
returns-in-Ok-true-clause-holds g c clean =
    let old = state g.S.Store c.args.conn in
    let it = c.in-Ok-true.ensures.number in
    let has = sym c.schema.ensures.value ∙ c.is_of.ensures.0 c.if-not-is_of.false in (
      (
        has,
        subst (λ (n : ℕ). HasNumber n old.now.trees) c.number.ensures
            ((it.number clean (either c.args.version c.args.conn.schema has)).0 c.in-Ok-true.field-0-test),
      ),
      as_asked c.number.result old (state g.S.Store c.is_numbered.new.conn) _ it clean,
    )

pub returns-in-Ok-false-clause-refuses : goal.returns-in-Ok-false-clause-refuses
returns-in-Ok-false-clause-refuses g c is clean =
    let old = state g.S.Store c.args.conn in
    let it = c.in-Ok-false.ensures.number in (
      λ holds. true≢false (sym ((it.number clean (either c.args.version c.args.conn.schema holds.0)).1
          (subst (λ (n : ℕ). HasNumber n old.now.trees) (sym c.number.ensures) holds.1)) ∙ c.in-Ok-false.field-0-test),
      as_asked c.number.result old (state g.S.Store c.is_numbered.new.conn) _ it clean,
    )

pub returns-in-Ok-false-clause-unread : goal.returns-in-Ok-false-clause-unread
returns-in-Ok-false-clause-unread g c = inl (sym c.schema.ensures.value ∙ c.is_of.ensures.0 c.if-not-is_of.false)

pub returns-in-Err-clause-unread : goal.returns-in-Err-clause-unread
returns-in-Err-clause-unread g c = inl (sym c.schema.ensures.value ∙ c.is_of.ensures.0 c.if-not-is_of.false)

pub returns-in-Err-clause-refuses : goal.returns-in-Err-clause-refuses
returns-in-Err-clause-refuses g c is = absurd (not_version c.in-Err.fault c.in-Err.ensures.number.fault is)

pub returns-in-Err-clause-stays : goal.returns-in-Err-clause-stays
returns-in-Err-clause-stays g c is = absurd (not_version c.in-Err.fault c.in-Err.ensures.number.fault is)

pub returns-in-Err-clause-counts : goal.returns-in-Err-clause-counts
returns-in-Err-clause-counts g c is = absurd (not_version c.in-Err.fault c.in-Err.ensures.number.fault is)

pub returns-in-Err-clause-other : goal.returns-in-Err-clause-other
returns-in-Err-clause-other g c other =
    absurd (other (sym c.schema.ensures.value ∙ c.is_of.ensures.0 c.if-not-is_of.false))

pub returns-in-Err-clause-unclean : goal.returns-in-Err-clause-unclean
returns-in-Err-clause-unclean g c = not_unclean c.in-Err.fault c.in-Err.ensures.number.fault

pub returns-in-Err-clause-disk : goal.returns-in-Err-clause-disk
returns-in-Err-clause-disk g c is clean =
    let has = c.is_of.ensures.0 c.if-not-is_of.false in
    c.in-Err.ensures.number.disk (either c.args.version c.args.conn.schema (sym c.schema.ensures.value ∙ has)) clean (ap Err is)

pub returns-in-Ok-true-clause-counted : goal.returns-in-Ok-true-clause-counted
returns-in-Ok-true-clause-counted g c clean =
    let it = c.in-Ok-true.ensures.number in
    let same = it.same clean in
    record { faults = it.crash.counts; opened = same.1 ∙ sym same.0; limit = it.crash.limit }

pub returns-in-Ok-false-clause-counts : goal.returns-in-Ok-false-clause-counts
returns-in-Ok-false-clause-counts g c is clean =
    let it = c.in-Ok-false.ensures.number in
    let same = it.same clean in
    record { faults = it.crash.counts; opened = same.1 ∙ sym same.0; limit = it.crash.limit }

use Rattle.std.proofs.Common.{inl, inr, refl, sym, subst, ◌∙◌}
use Rattle.hub_schema.specs.Rows.{traffic_in}
use Rattle.hub_sql.specs.Opening.{StaysShut}
use Rattle.sqlite.specs.Held.{state}
use Rattle.hub_sql.specs.declared.version.Version.TheVariants.{First}
use Rattle.hub_sql.proofs.Adopted.{stays_shut}
use Rattle.hub_sql.proofs.Migrated.{migrates, refused_anew, refused_old, refused_version, same_fault}
use Rattle.hub_sql.proofs.Sparing.{IsAnew, spared_before}
use Rattle.hub_sql.proofs.migrating.migrate_hub.Given as given
use Rattle.hub_sql.proofs.migrating.migrate_hub.Goals as goal
use Rattle.hub_sql.proofs.migrating.migrate_hub.Goals.{After-beside}

pub returns-in-Err-clause-refuses : goal.returns-in-Err-clause-refuses
returns-in-Err-clause-refuses g c =
    refused_version c.requires.tables c.in-Err.ensures.refuses c.in-Err.ensures.other c.in-Err.ensures.unclean
    c.in-Err.ensures.disk c.in-Err.ensures.spared

pub returns-in-Err-reopen-clause-refuses : goal.returns-in-Err-reopen-clause-refuses
returns-in-Err-reopen-clause-refuses g c =
    refused_old c.in-Ok.ensures.schema
    (elim c.in-Err-reopen.ensures.fails [ inl memory ↦ inr (inl cc) | inr disk ↦ inr (inr cc) ])
    (λ none clean.
    none (traffic_in (state g.S.Store c.args.conn).committed.trees)
    (inr ((c.in-Ok.ensures.holds (c.in-Err-reopen.ensures.spared.clean clean)).0, refl)))
    (λ first lacks rows memory. tt)
    (λ why is. (
      c.in-Ok.ensures.schema,
      λ clean.
          let was = state g.S.Store c.args.conn in
          let early = c.in-Err-reopen.ensures.spared.clean clean in
          subst (StaysShut g.S.Store was First c.in-Err-reopen.store) (same_fault c.in-Err-reopen.fault why is)
          (stays_shut g.S.Store was (state g.S.Store c.in-Ok.conn) First c.in-Err-reopen.store c.in-Err-reopen.fault
          (c.in-Ok.ensures.holds early).1.committed (c.in-Ok.ensures.counted early).faults (c.in-Err-reopen.ensures.shut clean)),
    ))
    (λ is. absurd cc)
    (spared_before g.S.Store (state g.S.Store c.args.conn) c.in-Ok.conn c.in-Err-reopen.store
    (λ clean. (c.in-Ok.ensures.holds clean).1) c.in-Ok.ensures.clean c.in-Err-reopen.ensures.spared)

anew : (g : given.Over) (c : After-beside g)
    → IsAnew g.S.Store First (state g.S.Store c.args.conn) c.in-Ok.conn c.in-Ok-reopen.conn
anew g c = record {
  known = c.in-Ok.ensures.schema;
  holds = c.in-Ok.ensures.holds;
  clean = c.in-Ok.ensures.clean;
  early = c.in-Ok-reopen.ensures.clean;
  rows = c.in-Ok-reopen.ensures.rows;
  limit = c.in-Ok-reopen.ensures.fresh.unlimited ∙ sym c.requires.unlimited;
  ready = c.in-Ok-reopen.ensures.ready;
  settled = g.met.S.Store.settled c.in-Ok-reopen.conn.store;
}

pub returns-in-Err-beside-clause-refuses : goal.returns-in-Err-beside-clause-refuses
returns-in-Err-beside-clause-refuses g c =
    refused_anew (anew g (goal.at.returns-in-Err-beside-clause-refuses g c).After-beside) c.args.register.now
    c.in-Err-beside.ensures.fails c.in-Err-beside.ensures.known c.in-Err-beside.ensures.unfit c.in-Err-beside.ensures.none
    c.in-Err-beside.ensures.spared

pub returns-in-Ok-beside-clause-founds : goal.returns-in-Ok-beside-clause-founds
returns-in-Ok-beside-clause-founds g c =
    let register = c.args.register.now in
    migrates (anew g (goal.at.returns-in-Ok-beside-clause-founds g c).After-beside) register
    c.in-Ok-beside.ensures.holds.whole c.in-Ok-beside.ensures.fits c.in-Ok-beside.ensures.holds.rows_are
    (λ t. c.rows_beside_stay.ensures.holds register t c.in-Ok-beside.ensures.register)
    (λ suppliers t hubs keys prefixes.
    c.migrated_tables_are_sound.ensures register suppliers t c.in-Ok-beside.ensures.register hubs keys prefixes)
    c.in-Ok-beside.ensures.holds.crash c.in-Ok-beside.ensures.holds.clean

use Rattle.sqlite.specs.Held.{state}
use Rattle.hub_sql.specs.declared.version.Version.TheVariants.{First}
use Rattle.hub_sql.proofs.Migrated.{migrates, refused_anew, refused_version, shaped_as_before}
use Rattle.hub_sql.proofs.Sparing.{IsAnew, opened_now}
use Rattle.hub_sql.proofs.migrating.migrate_opened_hub.Given as given
use Rattle.hub_sql.proofs.migrating.migrate_opened_hub.Goals as goal
use Rattle.hub_sql.proofs.migrating.migrate_opened_hub.Goals.{After-beside}

pub returns-in-Err-clause-refuses : goal.returns-in-Err-clause-refuses
returns-in-Err-clause-refuses g c =
    refused_version c.requires.tables c.in-Err.ensures.refuses c.in-Err.ensures.other c.in-Err.ensures.unclean
    c.in-Err.ensures.disk c.in-Err.ensures.spared

anew : (g : given.Over) (c : After-beside g)
    → IsAnew g.S.Store First (state g.S.Store c.args.conn) c.in-Ok.conn c.in-Ok.conn
anew g c =
    opened_now c.in-Ok.ensures.schema c.in-Ok.ensures.holds c.in-Ok.ensures.clean c.in-Ok.ensures.limit
    (λ clean. c.in-Ok.ensures.ready clean (c.requires.ready (c.in-Ok.ensures.clean clean)))
    (g.met.S.Store.settled c.in-Ok.conn.store)

pub returns-in-Err-beside-clause-refuses : goal.returns-in-Err-beside-clause-refuses
returns-in-Err-beside-clause-refuses g c =
    refused_anew (anew g (goal.at.returns-in-Err-beside-clause-refuses g c).After-beside) c.args.register.now
    c.in-Err-beside.ensures.fails c.in-Err-beside.ensures.known c.in-Err-beside.ensures.unfit c.in-Err-beside.ensures.none
    c.in-Err-beside.ensures.spared

pub beside-requires-clause-shaped : goal.beside-requires-clause-shaped
beside-requires-clause-shaped g c clean =
    shaped_as_before (state g.S.Store c.args.conn) (state g.S.Store c.in-Ok.conn) c.in-Ok.ensures.schema
    (c.in-Ok.ensures.holds clean).1 (c.requires.rising (c.in-Ok.ensures.clean clean))

pub returns-in-Ok-beside-clause-founds : goal.returns-in-Ok-beside-clause-founds
returns-in-Ok-beside-clause-founds g c =
    let register = c.args.register.now in
    migrates (anew g (goal.at.returns-in-Ok-beside-clause-founds g c).After-beside) register
    c.in-Ok-beside.ensures.holds.whole c.in-Ok-beside.ensures.fits c.in-Ok-beside.ensures.holds.rows_are
    (λ t. c.rows_beside_stay.ensures.holds register t c.in-Ok-beside.ensures.register)
    (λ suppliers t hubs keys prefixes.
    c.migrated_tables_are_sound.ensures register suppliers t c.in-Ok-beside.ensures.register hubs keys prefixes)
    c.in-Ok-beside.ensures.holds.crash c.in-Ok-beside.ensures.holds.clean

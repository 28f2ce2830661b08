use Rattle.sqlite.specs.Held.{state}
use Rattle.hub_sql.proofs.Adopted.{adopted, refused_anew, refused_version, rise_as_before}
use Rattle.hub_sql.proofs.Sparing.{IsAnew, opened_now}
use Rattle.hub_sql.proofs.store.SqliteStore.adopt_opened.Given as given
use Rattle.hub_sql.proofs.store.SqliteStore.adopt_opened.Goals as goal
use Rattle.hub_sql.proofs.store.SqliteStore.adopt_opened.Goals.{After-store_of_rows}

pub returns-in-Err-clause-refuses : goal.returns-in-Err-clause-refuses
returns-in-Err-clause-refuses g c =
    refused_version c.in-Err.ensures.refuses c.in-Err.ensures.other c.in-Err.ensures.unclean c.in-Err.ensures.disk c.in-Err.ensures.spared

anew : (g : given.Over) (c : After-store_of_rows g)
    → IsAnew g.S.Store c.in-Ok.version (state g.S.Store c.args.conn) c.in-Ok.conn c.in-Ok.conn
anew g c =
    opened_now c.in-Ok.ensures.known c.in-Ok.ensures.holds c.in-Ok.ensures.clean c.in-Ok.ensures.limit
    (λ clean. c.in-Ok.ensures.ready clean (c.requires.ready (c.in-Ok.ensures.clean clean)))
    (g.met.S.Store.settled c.in-Ok.conn.store)

pub returns-in-Err-store_of_rows-clause-refuses : goal.returns-in-Err-store_of_rows-clause-refuses
returns-in-Err-store_of_rows-clause-refuses g c =
    refused_anew (anew g (goal.at.returns-in-Err-store_of_rows-clause-refuses g c).After-store_of_rows) c.in-Ok.ensures.later
    c.in-Err-store_of_rows.ensures.not_version c.in-Err-store_of_rows.ensures.known
    c.in-Err-store_of_rows.ensures.unclean c.in-Err-store_of_rows.ensures.spared

pub store_of_rows-requires-clause-ordered : goal.store_of_rows-requires-clause-ordered
store_of_rows-requires-clause-ordered g c clean =
    rise_as_before (state g.S.Store c.args.conn) (state g.S.Store c.in-Ok.conn) c.in-Ok.ensures.schema
    (c.in-Ok.ensures.holds clean).1 (c.requires.rising (c.in-Ok.ensures.clean clean))

pub returns-in-Ok-store_of_rows-clause-adopts : goal.returns-in-Ok-store_of_rows-clause-adopts
returns-in-Ok-store_of_rows-clause-adopts g c =
    adopted (anew g (goal.at.returns-in-Ok-store_of_rows-clause-adopts g c).After-store_of_rows) c.in-Ok.ensures.later
    c.in-Ok-store_of_rows.ensures.holds.whole c.in-Ok-store_of_rows.ensures.holds.rows_are
    c.in-Ok-store_of_rows.ensures.register c.in-Ok-store_of_rows.ensures.holds.crash
    c.in-Ok-store_of_rows.ensures.holds.clean

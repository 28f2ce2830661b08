use Rattle.std.proofs.Common.{inl, inr, sym, ◌∙◌}
use Rattle.sqlite.specs.Held.{state}
use Rattle.hub_sql.proofs.Adopted.{adopted, holds_hub, hub_shaped, refused_anew, refused_later, refused_version, stays_shut}
use Rattle.hub_sql.proofs.Sparing.{IsAnew, spared_before}
use Rattle.hub_sql.proofs.store.SqliteStore.adopt.Given as given
use Rattle.hub_sql.proofs.store.SqliteStore.adopt.Goals as goal
use Rattle.hub_sql.proofs.store.SqliteStore.adopt.Goals.{After-store_of_rows}

pub returns-in-Err-clause-refuses : goal.returns-in-Err-clause-refuses
returns-in-Err-clause-refuses g c =
    refused_version c.in-Err.ensures.refuses c.in-Err.ensures.other c.in-Err.ensures.unclean c.in-Err.ensures.disk c.in-Err.ensures.spared

pub returns-in-Err-reopen-clause-refuses : goal.returns-in-Err-reopen-clause-refuses
returns-in-Err-reopen-clause-refuses g c =
    refused_later c.in-Ok.ensures.schema
    (λ is. absurd (elim c.in-Err-reopen.ensures.fails [ inl memory ↦ cc | inr disk ↦ cc ]))
    (λ none clean.
    none (holds_hub c.in-Ok.version (state g.S.Store c.args.conn).now c.in-Ok.ensures.later
    (c.in-Ok.ensures.holds (c.in-Err-reopen.ensures.spared.clean clean)).0))
    (λ is. absurd (elim c.in-Err-reopen.ensures.fails [ inl memory ↦ cc | inr disk ↦ cc ])) (
      c.in-Ok.version,
      (
        c.in-Ok.ensures.later,
        (
          c.in-Ok.ensures.known,
          λ clean.
              let early = c.in-Err-reopen.ensures.spared.clean clean in
              stays_shut g.S.Store (state g.S.Store c.args.conn) (state g.S.Store c.in-Ok.conn) c.in-Ok.version c.in-Err-reopen.store
              c.in-Err-reopen.fault (c.in-Ok.ensures.holds early).1.committed (c.in-Ok.ensures.counted early).faults
              (c.in-Err-reopen.ensures.shut clean),
        ),
      ),
    )
    (spared_before g.S.Store (state g.S.Store c.args.conn) c.in-Ok.conn c.in-Err-reopen.store
    (λ clean. (c.in-Ok.ensures.holds clean).1) c.in-Ok.ensures.clean c.in-Err-reopen.ensures.spared)

anew : (g : given.Over) (c : After-store_of_rows g)
    → IsAnew g.S.Store c.in-Ok.version (state g.S.Store c.args.conn) c.in-Ok.conn c.in-Ok-reopen.conn
anew g c = record {
  known = c.in-Ok.ensures.known;
  holds = c.in-Ok.ensures.holds;
  clean = c.in-Ok.ensures.clean;
  early = c.in-Ok-reopen.ensures.clean;
  rows = c.in-Ok-reopen.ensures.rows;
  limit = c.in-Ok-reopen.ensures.fresh.unlimited ∙ sym c.requires.unlimited;
  ready = c.in-Ok-reopen.ensures.ready;
  settled = g.met.S.Store.settled c.in-Ok-reopen.conn.store;
}

pub returns-in-Err-store_of_rows-clause-refuses : goal.returns-in-Err-store_of_rows-clause-refuses
returns-in-Err-store_of_rows-clause-refuses g c =
    refused_anew (anew g (goal.at.returns-in-Err-store_of_rows-clause-refuses g c).After-store_of_rows) c.in-Ok.ensures.later
    c.in-Err-store_of_rows.ensures.not_version c.in-Err-store_of_rows.ensures.known
    c.in-Err-store_of_rows.ensures.unclean c.in-Err-store_of_rows.ensures.spared

pub store_of_rows-requires-clause-ordered : goal.store_of_rows-requires-clause-ordered
store_of_rows-requires-clause-ordered g c clean =
    hub_shaped c.in-Ok.version (state g.S.Store c.in-Ok-reopen.conn).now.trees c.in-Ok.ensures.later
    (c.in-Ok-reopen.ensures.shaped clean)

pub returns-in-Ok-store_of_rows-clause-adopts : goal.returns-in-Ok-store_of_rows-clause-adopts
returns-in-Ok-store_of_rows-clause-adopts g c =
    adopted (anew g (goal.at.returns-in-Ok-store_of_rows-clause-adopts g c).After-store_of_rows) c.in-Ok.ensures.later
    c.in-Ok-store_of_rows.ensures.holds.whole c.in-Ok-store_of_rows.ensures.holds.rows_are
    c.in-Ok-store_of_rows.ensures.register c.in-Ok-store_of_rows.ensures.holds.crash
    c.in-Ok-store_of_rows.ensures.holds.clean

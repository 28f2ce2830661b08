use Rattle.std.proofs.Common.{◌≡◌, Err, IsTrue, rules, refl}
use Rattle.sqlite.specs.Held.{state}
use Rattle.sql_rows.proofs.Transactions.{on_ok}
use Rattle.hub_schema.specs.Rows.{traffic_in}
use Rattle.hub_schema.specs.State.{IsOldHub}
use Rattle.hub_tables.specs.Change.{apply_all}
use Rattle.hub_writes.proofs.Founded.{failed, succeeded}
use Rattle.hub_writes.proofs.founding.migrate.Goals as goal

pub returns-in_err-lay_beside : goal.returns-in_err-lay_beside
returns-in_err-lay_beside g c =
    let old = c.args.conn.now in
    let asked = IsOldHub (state g.S.Store old) in
    let rows = apply_all c.args.changes.now (traffic_in (state g.S.Store old).now.trees) in
    let fault = c.in_err-lay_beside.field-0.0 in
    let given : c.from_residual.result ≡ Err fault = search rules in
    let end = c.drop-tx.new.self.0 in
    let same : end ≡ c.conn-1.given.0 = search rules in
    let idle : IsTrue c.is_autocommit-idle.result = rw (c.is_autocommit-idle.ensures.value, c.requires) in
    let kept = rw c.transaction-tx.ensures.begun at c.lay_beside.ensures.kept in
    let one = rw c.transaction-tx.ensures.begun at c.lay_beside.ensures.survives in
    failed g.S.Store old c.lay_beside.new.tx.conn.now end _ same asked rows c.requires (c.is_autocommit-idle.ensures.settled idle)
    kept one c.drop-tx.ensures.ended fault c.drop-tx.ensures.undone c.drop-tx.ensures.survives _ given

pub returns : goal.returns
returns g c =
    let old = c.args.conn.now in
    let asked = IsOldHub (state g.S.Store old) in
    let rows = apply_all c.args.changes.now (traffic_in (state g.S.Store old).now.trees) in
    let end = c.commit.new.self.0 in
    let same : end ≡ c.conn-2-1.given.0 = search rules in
    let idle : IsTrue c.is_autocommit-idle.result = rw (c.is_autocommit-idle.ensures.value, c.requires) in
    let kept = rw c.transaction-tx.ensures.begun at c.lay_beside.ensures.kept in
    let one = rw c.transaction-tx.ensures.begun at c.lay_beside.ensures.survives in
    let makes = rw c.transaction-tx.ensures.begun at c.in_ok-lay_beside.ensures.makes in
    succeeded g.S.Store old c.lay_beside.new.tx.conn.now end _ same asked rows c.requires
    (c.is_autocommit-idle.ensures.settled idle) kept one c.commit.ensures.ended
    (λ clean so.
    makes clean (record { schema = so.schema; numbered = so.numbered; ordered = so.ordered; sound = so.sound }) refl)
    c.commit.ensures.survives c.commit.result (λ clean. on_ok c.commit.result (λ h. h.1) (c.commit.ensures.ok clean))
    c.commit.ensures.err (g.met.S.Store.settled end.store) _ c.call_ended.ensures

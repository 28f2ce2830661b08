use Rattle.std.proofs.Common.{◌≡◌, Err, IsTrue, rules, refl}
use Rattle.sql_rows.proofs.Transactions.{on_ok}
use Rattle.hub_schema.specs.Schema.{no_schema}
use Rattle.hub_tables.specs.Change.{apply_all}
use Rattle.hub_tables.specs.Tables.{empty}
use Rattle.hub_writes.proofs.Founded.{failed, succeeded}
use Rattle.hub_writes.proofs.founding.found.Goals as goal

pub returns-in_err-lay : goal.returns-in_err-lay
returns-in_err-lay g c =
    let old = c.args.conn.now in
    let asked = old.schema ≡ no_schema in
    let rows = apply_all c.args.changes.now empty in
    let fault = c.in_err-lay.field-0.0 in
    let given : c.from_residual.result ≡ Err fault = search rules in
    let end = c.drop-tx.new.self.0 in
    let same : end ≡ c.conn-1.given.0 = search rules in
    let idle : IsTrue c.is_autocommit-idle.result = rw (c.is_autocommit-idle.ensures.value, c.requires) in
    let kept = rw c.transaction-tx.ensures.begun at c.lay.ensures.kept in
    let one = rw c.transaction-tx.ensures.begun at c.lay.ensures.survives in
    failed g.S.Store old c.lay.new.tx.conn.now end _ same asked rows c.requires (c.is_autocommit-idle.ensures.settled idle)
    kept one c.drop-tx.ensures.ended fault c.drop-tx.ensures.undone c.drop-tx.ensures.survives _ given

pub returns : goal.returns
returns g c =
    let old = c.args.conn.now in
    let asked = old.schema ≡ no_schema in
    let rows = apply_all c.args.changes.now empty in
    let end = c.commit.new.self.0 in
    let same : end ≡ c.conn-2-1.given.0 = search rules in
    let idle : IsTrue c.is_autocommit-idle.result = rw (c.is_autocommit-idle.ensures.value, c.requires) in
    let kept = rw c.transaction-tx.ensures.begun at c.lay.ensures.kept in
    let one = rw c.transaction-tx.ensures.begun at c.lay.ensures.survives in
    let makes = rw c.transaction-tx.ensures.begun at c.in_ok-lay.ensures.makes in
    succeeded g.S.Store old c.lay.new.tx.conn.now end _ same asked rows c.requires
    (c.is_autocommit-idle.ensures.settled idle) kept one c.commit.ensures.ended
    (λ clean none. makes clean (record { schema = none; same = tt; mode = refl }))
    c.commit.ensures.survives c.commit.result (λ clean. on_ok c.commit.result (λ h. h.1) (c.commit.ensures.ok clean))
    c.commit.ensures.err (g.met.S.Store.settled end.store) _ c.call_ended.ensures

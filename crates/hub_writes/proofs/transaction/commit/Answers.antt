use Rattle.std.proofs.Common.{◌≡◌, Err, IsTrue, rules, sym, subst}
use Rattle.sqlite.specs.Held.{Held, state}
use Rattle.hub_schema.specs.State.{CommitsTo}
use Rattle.hub_writes.specs.Acts.{Acts}
use Rattle.sql_rows.proofs.Transactions.{on_ok}
use Rattle.hub_writes.proofs.Ends.{failed, succeeded}
use Rattle.hub_writes.proofs.transaction.commit.Goals as goal

pub returns-in_err-apply_all : goal.returns-in_err-apply_all
returns-in_err-apply_all g c =
    let fault = c.in_err-apply_all.field-0.0 in
    let given : c.from_residual.result ≡ Err fault = search rules in
    let old = c.args.conn.now in
    let mid = c.apply_all.new.tx.conn.now in
    let end = c.drop-tx.new.self.0 in
    let idle : IsTrue c.is_autocommit-idle.result = rw (c.is_autocommit-idle.ensures.value, c.requires) in
    let acts = subst (Acts c.args.changes.now _ _) c.in_err-apply_all.was (rw c.transaction-tx.ensures.begun at
    c.apply_all.ensures.acts) in
    let commits = failed g.S.Store old mid end c.args.changes.now fault acts (c.is_autocommit-idle.ensures.settled
    idle) c.drop-tx.ensures.ended c.drop-tx.ensures.undone c.drop-tx.ensures.survives in
    let same : end ≡ c.conn-1.given.0 = search rules in
    subst (λ (h : Held _). CommitsTo c.args.changes.now (state g.S.Store old) (state g.S.Store h)
    c.from_residual.result) same (subst (CommitsTo c.args.changes.now _ _) (sym given) commits)

pub returns : goal.returns
returns g c =
    let old = c.args.conn.now in
    let mid = c.apply_all.new.tx.conn.now in
    let end = c.commit.new.self.0 in
    let idle : IsTrue c.is_autocommit-idle.result = rw (c.is_autocommit-idle.ensures.value, c.requires) in
    let acts = subst (Acts c.args.changes.now _ _) c.in_ok-apply_all.was (rw c.transaction-tx.ensures.begun at
    c.apply_all.ensures.acts) in
    let was_open = rw c.transaction-tx.ensures.begun at c.in_ok-apply_all.ensures.was_open in
    let commits = succeeded g.S.Store old mid end c.args.changes.now acts was_open c.commit.ensures.survives
    c.commit.result (c.is_autocommit-idle.ensures.settled idle) c.commit.ensures.ended
    (λ clean. on_ok c.commit.result (λ h. h.1) (c.commit.ensures.ok clean)) c.commit.ensures.err (g.met.S.Store.settled
    end.store) in
    let same : end ≡ c.conn-2-1.given.0 = search rules in
    subst (λ (h : Held _). CommitsTo c.args.changes.now (state g.S.Store old) (state g.S.Store h)
    c.call_ended.result) same (subst (CommitsTo c.args.changes.now _ _) (sym c.call_ended.ensures) commits)

use Rattle.std.proofs.Common.{[], Result, OnOk, IsTrue, sym, subst, refl}
use Rattle.sqlite.specs.Held.{state}
use Rattle.hub_store.specs.declared.fault.StoreFault.{StoreFault}
use Rattle.hub_writes.proofs.Nothing.{nothing_undone}
use Rattle.hub_writes.proofs.Outcomes.{executed, touch_acts}
use Rattle.hub_writes.proofs.Steps.{nothing_made, was_open}
use Rattle.hub_writes.proofs.changes.touch.Goals as goal

pub returns-clause-acts : goal.returns-clause-acts
returns-clause-acts g c =
    let did = executed g.S.Store [] [] _ _ _ c.execute.result c.execute.ensures.ended
    c.execute.ensures.runs c.execute.ensures.survives refl in
    touch_acts g.S.Store _ _ _ _ c.execute.result did (nothing_undone _ _) (nothing_made _ _ c.execute.result) c.statement_ended.result
    c.statement_ended.ensures

pub returns-clause-was_open : goal.returns-clause-was_open
returns-clause-was_open g c clean =
    let did = executed g.S.Store [] [] _ _ _ c.execute.result c.execute.ensures.ended
    c.execute.ensures.runs c.execute.ensures.survives refl in
    subst (λ (r : Result (Unit {0}) StoreFault). OnOk r (IsTrue (state g.S.Store c.args.tx.now.conn.now).is_open
    × IsTrue (state g.S.Store c.args.tx.now.conn.now).in_transaction)) (sym c.statement_ended.ensures) (was_open
    g.S.Store _ _ _ _ c.execute.result did clean)

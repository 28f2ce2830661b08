use Rattle.std.proofs.Common.{inl, inr, sym, subst, []}
use Rattle.std.proofs.lemmas.Bool.{cases_Bool}
use Rattle.sqlite.specs.State.{KeepsCommit}
use Rattle.sqlite.specs.Held.{state}
use Rattle.sql_rows.proofs.Transactions.{kept_ran, kept_still}
use Rattle.hub_schema.proofs.Leaving.{executed_leaves}
use Rattle.hub_schema.proofs.Makes.{made_one}
use Rattle.hub_schema.proofs.making.create.Goals as goal

pub returns-clause-makes : goal.returns-clause-makes
returns-clause-makes g c clean rows schema table defines bare has =
    made_one c.args.text.now (state g.S.Store c.args.tx.now.conn.now) (state g.S.Store c.execute.new.self.conn.now)
    c.execute.result rows schema table defines bare has (c.execute.ensures.runs clean has.mode)

pub returns-clause-kept : goal.returns-clause-kept
returns-clause-kept g c clean = elim (cases_Bool c.args.tx.now.conn.now.in_transaction) [
  | inl begun ↦ kept_ran c.args.text.now [] (state g.S.Store c.args.tx.now.conn.now) (state g.S.Store
      c.execute.new.self.conn.now) c.execute.result (c.execute.ensures.runs clean begun)
  | inr none ↦ subst (λ h. KeepsCommit (state g.S.Store c.args.tx.now.conn.now) (state g.S.Store h)) (sym
      (c.execute.ensures.ended none).1) (kept_still (state g.S.Store c.args.tx.now.conn.now))
]

pub returns-clause-leaves : goal.returns-clause-leaves
returns-clause-leaves g c =
    executed_leaves g.S.Store c.args.text.now [] c.args.tx.now.conn.now c.execute.new.self.conn.now c.execute.result
    c.execute.ensures.ended c.execute.ensures.runs

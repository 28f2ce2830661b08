use Rattle.sqlite.specs.Held.{state}
use Rattle.std.proofs.Common.{[]}
use Rattle.hub_schema.proofs.Leaving.{executed_leaves}
use Rattle.hub_schema.proofs.Makes.{number_leaves}
use Rattle.hub_schema.proofs.Beside.{number_set}
use Rattle.hub_schema.proofs.Texts.{set_number}
use Rattle.hub_schema.proofs.making.set_number.Goals as goal

pub returns-clause-makes : goal.returns-clause-makes
returns-clause-makes g c clean number rows one ordered has =
    number_set number rows (state g.S.Store c.args.tx.now.conn.now) (state g.S.Store c.execute.new.self.conn.now)
    c.execute.result one ordered has (c.execute.ensures.runs clean has.mode)

pub returns-clause-leaves : goal.returns-clause-leaves
returns-clause-leaves g c rows =
    number_leaves rows (state g.S.Store c.args.tx.now.conn.now) (state g.S.Store c.execute.new.self.conn.now)
    c.execute.result
    (executed_leaves g.S.Store set_number [] c.args.tx.now.conn.now c.execute.new.self.conn.now c.execute.result
    c.execute.ensures.ended c.execute.ensures.runs)

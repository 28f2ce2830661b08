use Rattle.sqlite.specs.Held.{state}
use Rattle.sqlite_trees.specs.Tree.{no_trees}
use Rattle.std.proofs.Common.{[]}
use Rattle.hub_schema.proofs.Leaving.{executed_leaves}
use Rattle.hub_schema.proofs.Makes.{number_put, number_leaves}
use Rattle.hub_schema.proofs.Texts.{put_number}
use Rattle.hub_schema.proofs.making.put_number.Goals as goal

pub returns-clause-makes : goal.returns-clause-makes
returns-clause-makes g c clean has =
    number_put (state g.S.Store c.args.tx.now.conn.now) (state g.S.Store c.execute.new.self.conn.now) c.execute.result
    has (c.execute.ensures.runs clean has.mode)

pub returns-clause-leaves : goal.returns-clause-leaves
returns-clause-leaves g c =
    number_leaves no_trees (state g.S.Store c.args.tx.now.conn.now) (state g.S.Store c.execute.new.self.conn.now) c.execute.result
    (executed_leaves g.S.Store put_number [] c.args.tx.now.conn.now c.execute.new.self.conn.now c.execute.result
    c.execute.ensures.ended c.execute.ensures.runs)

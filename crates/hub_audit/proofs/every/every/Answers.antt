use Rattle.sqlite.specs.Held.{state}
use Rattle.hub_rows.proofs.Asking.{asked_more}
use Rattle.hub_audit.specs.Every.{AreRead}
use Rattle.hub_audit.proofs.Keys.{never_unclean, only_memory}
use Rattle.hub_audit.proofs.every.every.Goals as goal

pub returns-clause-asks : goal.returns-clause-asks
returns-clause-asks g c =
    asked_more (AreRead g.T.ShownRow.shown g.T.ShownRow.clean c.args.parts.now) (λ rows. ⊥) c.args.text.now _
    (state g.S.Store c.args.conn.now) (state g.S.Store c.query.new.conn) c.in_ok-rows.rows c.read_rows.result
    c.in_ok-rows.ensures.asks (rw c.as_slice.ensures.value at c.read_rows.ensures.read)
    (never_unclean c.read_rows.result c.read_rows.ensures.memory) (only_memory c.read_rows.result c.read_rows.ensures.memory)

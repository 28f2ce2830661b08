use Rattle.sqlite.specs.Held.{state}
use Rattle.hub_audit.proofs.LowestAbove.{next_looked}
use Rattle.hub_audit.proofs.next.next_value.Goals as goal

pub returns : goal.returns
returns g c =
    next_looked c.args.kind c.args.value.now (state g.S.Store c.args.conn.now) (state g.S.Store c.first_of.new.conn) c.first_of.result
    (rw c.next_text-text.ensures at c.first_of.ensures.asks)

use Rattle.sqlite.specs.Held.{state}
use Rattle.hub_reads.proofs.OfLast.{highest_look}
use Rattle.hub_reads.proofs.mail.highest.Goals as goal

pub returns-clause-looks : goal.returns-clause-looks
returns-clause-looks g c =
    highest_look (state g.S.Store c.args.conn.now) (state g.S.Store c.first_of.new.conn) c.args.supplier.now c.first_of.result
    (rw c.digits.ensures.value at c.first_of.ensures.asks)

use Rattle.sqlite.specs.Held.{state}
use Rattle.hub_reads.proofs.OfMail.{entry_look}
use Rattle.hub_reads.proofs.mail.entry_of.Goals as goal

pub returns-clause-looks : goal.returns-clause-looks
returns-clause-looks g c =
    entry_look (state g.S.Store c.args.conn.now)
    (state g.S.Store c.first_of.new.conn) c.args.supplier.now c.args.number c.value-key.ensures.low c.first_of.result
    (rw (c.digits.ensures.value, c.value-key.ensures.value) at c.first_of.ensures.asks)

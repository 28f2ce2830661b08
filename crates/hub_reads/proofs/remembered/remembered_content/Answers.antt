use Rattle.sqlite.specs.Held.{state}
use Rattle.hub_reads.proofs.OfRemembered.{remembered_look}
use Rattle.hub_reads.proofs.remembered.remembered_content.Goals as goal

pub returns-clause-looks : goal.returns-clause-looks
returns-clause-looks g c =
    remembered_look (state g.S.Store c.args.conn.now)
    (state g.S.Store c.first_of.new.conn) c.args.supplier.now c.args.side c.args.control.now c.args.message.now
    c.first_of.result (rw (c.digits.ensures.value, c.letter_of-letter.ensures) at c.first_of.ensures.asks)

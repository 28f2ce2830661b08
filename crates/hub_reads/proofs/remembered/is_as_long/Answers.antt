use Rattle.sqlite.specs.Held.{state}
use Rattle.hub_reads.proofs.OfRemembered.{length_look}
use Rattle.hub_reads.proofs.remembered.is_as_long.Goals as goal

pub returns : goal.returns
returns g c = record {
  looks = length_look (state g.S.Store c.args.conn.now)
      (state g.S.Store c.answer_shows_length.new.conn) c.args.supplier.now c.args.side c.args.control.now c.args.message.now c.args.text.now
      c.answer_shows_length.result (rw (c.digits.ensures.value, c.letter_of-letter.ensures) at c.answer_shows_length.ensures.asks);
}

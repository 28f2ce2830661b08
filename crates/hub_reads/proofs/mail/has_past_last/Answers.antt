use Rattle.std.proofs.Common.{arith}
use Rattle.sqlite.specs.Held.{state}
use Rattle.edi_envelope.specs.Mail.{last_number}
use Rattle.hub_reads.proofs.OfMail.{above_look}
use Rattle.hub_reads.proofs.mail.has_past_last.Goals as goal

pub returns : goal.returns
returns g c = record {
  looks = above_look (state g.S.Store c.args.conn.now)
      (state g.S.Store c.has_row.new.conn) c.args.supplier.now last_number (omega arith) c.has_row.result
      (rw c.digits.ensures.value at c.has_row.ensures.asks);
}

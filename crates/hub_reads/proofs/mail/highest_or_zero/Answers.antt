use Rattle.sqlite.specs.Held.{state}
use Rattle.hub_reads.proofs.OfLast.{zero_look}
use Rattle.hub_reads.proofs.mail.highest_or_zero.Goals as goal

pub returns-clause-looks : goal.returns-clause-looks
returns-clause-looks g c =
    zero_look (state g.S.Store c.args.conn.now) (state g.S.Store c.highest.new.conn) c.args.supplier.now
    c.in_ok-number.number c.unwrap_or.result c.unwrap_or.ensures c.in_ok-number.ensures.looks

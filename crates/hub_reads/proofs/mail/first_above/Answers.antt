use Rattle.sqlite.specs.Held.{state}
use Rattle.sqlite_value.specs.Value.{owned}
use Rattle.hub_reads.proofs.OfUntaken.{first_look}
use Rattle.hub_reads.proofs.mail.first_above.Goals as goal

pub returns-clause-looks : goal.returns-clause-looks
returns-clause-looks g c =
    first_look (state g.S.Store c.args.conn.now) (state g.S.Store c.heads_above.new.conn) c.args.supplier.now c.args.number
    (owned c.most_rows-most.result) c.args.limit c.most_rows-most.ensures c.in_ok-heads.heads
    c.first_heads.result c.first_heads.ensures.first c.in_ok-heads.ensures.looks

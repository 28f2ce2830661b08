use Rattle.sqlite.specs.Held.{state}
use Rattle.sqlite.specs.Values.{bound_value}
use Rattle.sqlite_value.specs.Value.{owned}
use Rattle.hub_reads.proofs.OfUntaken.{untaken_look}
use Rattle.hub_reads.proofs.mail.heads_above.Goals as goal

pub returns-clause-looks : goal.returns-clause-looks
returns-clause-looks g c =
    untaken_look (state g.S.Store c.args.conn.now) (state g.S.Store c.rows_of.new.conn) c.args.supplier.now
    c.args.number c.value-bound.ensures.low
    (bound_value (owned c.args.most)) c.rows_of.result (rw (c.digits.ensures.value, c.value-bound.ensures.value) at c.rows_of.ensures.asks)

use Rattle.sqlite.specs.Held.{state}
use Rattle.hub_tables.specs.State.{last_mail}
use Rattle.hub_tables.specs.Tables.{view}
use Rattle.hub_reads.proofs.OfUntaken.{low_entry}
use Rattle.hub_reads.proofs.OfLast.{last_look}
use Rattle.hub_reads.proofs.mail.last_mail.Goals as goal

pub returns-then-low-clause-looks : goal.returns-then-low-clause-looks
returns-then-low-clause-looks g c =
    low_entry (λ t. last_mail (view c.args.supplier.now t)) (state g.S.Store c.args.conn.now) (state g.S.Store c.has_low.new.conn)
    c.args.supplier.now c.in_ok-low.low c.if-low.true c.in_ok-low.ensures.looks

pub returns-clause-looks : goal.returns-clause-looks
returns-clause-looks g c =
    last_look (state g.S.Store c.args.conn.now) (state g.S.Store c.has_low.new.conn) (state g.S.Store c.highest_or_zero.new.conn)
    c.args.supplier.now c.in_ok-low.low c.if-low.false c.in_ok-low.ensures.looks c.highest_or_zero.result c.highest_or_zero.ensures.looks

use Rattle.std.proofs.Common.{arith, subst}
use Rattle.sqlite.specs.Held.{state}
use Rattle.hub_schema.specs.State.{LooksUp}
use Rattle.hub_tables.specs.State.{entry_at}
use Rattle.hub_tables.specs.Tables.{view}
use Rattle.hub_reads.proofs.OfMail.{no_entry, past_entry}
use Rattle.hub_reads.proofs.mail.mail_item.Goals as goal

pub returns-in-Some-clause-looks : goal.returns-in-Some-clause-looks
returns-in-Some-clause-looks g c =
    subst (λ n. LooksUp (λ t. entry_at (view c.args.supplier.now t) n) (state g.S.Store c.args.conn.now)
    (state g.S.Store c.entry_of.new.conn) c.entry_of.result) c.in-Some.ensures.some c.entry_of.ensures.looks

pub returns-then-above-clause-looks : goal.returns-then-above-clause-looks
returns-then-above-clause-looks g c =
    past_entry (λ t. entry_at (view c.args.supplier.now t) c.args.number) (state g.S.Store c.args.conn.now)
    (state g.S.Store c.has_past_last.new.conn)
    c.args.supplier.now c.in_ok-above.above c.if-above.true c.in_ok-above.ensures.looks

pub returns-clause-looks : goal.returns-clause-looks
returns-clause-looks g c =
    no_entry (state g.S.Store c.args.conn.now) (state g.S.Store c.has_past_last.new.conn) c.args.supplier.now c.args.number
    c.in_ok-above.above c.if-above.false (omega (arith, c.in_default.ensures.none)) c.ranges.number.fits c.in_ok-above.ensures.looks

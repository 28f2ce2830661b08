use Rattle.std.proofs.Common.{map, take}
use Rattle.sqlite.specs.Held.{state}
use Rattle.hub_tables.specs.State.{untaken_after}
use Rattle.hub_tables.specs.Tables.{view}
use Rattle.hub_store.specs.Heads.{head_of}
use Rattle.hub_reads.proofs.OfUntaken.{after_look, low_entry}
use Rattle.hub_reads.proofs.mail.mail_after.Goals as goal

pub returns-then-low-clause-looks : goal.returns-then-low-clause-looks
returns-then-low-clause-looks g c =
    low_entry (λ t. take c.args.limit (map head_of (untaken_after (view c.args.supplier.now t) c.args.number)))
    (state g.S.Store c.args.conn.now)
    (state g.S.Store c.has_low.new.conn)
    c.args.supplier.now c.in_ok-low.low c.if-low.true c.in_ok-low.ensures.looks

pub returns-clause-looks : goal.returns-clause-looks
returns-clause-looks g c =
    after_look (state g.S.Store c.args.conn.now) (state g.S.Store c.has_low.new.conn) (state g.S.Store c.untaken_heads_above.new.conn)
    c.args.supplier.now c.args.number c.args.limit c.in_ok-low.low c.if-low.false c.in_ok-low.ensures.looks
    c.untaken_heads_above.result c.untaken_heads_above.ensures.looks

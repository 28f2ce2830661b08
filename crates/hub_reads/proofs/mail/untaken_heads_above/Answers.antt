use Rattle.std.proofs.Common.{arith, filter, map, subst, take}
use Rattle.sqlite.specs.Held.{state}
use Rattle.hub_schema.specs.State.{LooksUp}
use Rattle.hub_tables.specs.Tables.{view}
use Rattle.hub_store.specs.Heads.{head_of}
use Rattle.hub_reads.specs.Mail.{untaken_heads}
use Rattle.hub_reads.proofs.OfMail.{past_entry}
use Rattle.hub_reads.proofs.OfUntaken.{wanted, none_above}
use Rattle.hub_reads.proofs.mail.untaken_heads_above.Goals as goal

pub returns-in-Some-clause-looks : goal.returns-in-Some-clause-looks
returns-in-Some-clause-looks g c =
    subst (λ n. LooksUp (λ t. take c.args.limit (untaken_heads c.args.supplier.now n t)) (state g.S.Store c.args.conn.now)
    (state g.S.Store c.first_above.new.conn) c.first_above.result) c.in-Some.ensures.some c.first_above.ensures.looks

pub returns-then-above-clause-looks : goal.returns-then-above-clause-looks
returns-then-above-clause-looks g c =
    past_entry (λ t. take c.args.limit (map head_of (filter (wanted c.args.number) (view c.args.supplier.now t).mail)))
    (state g.S.Store c.args.conn.now) (state g.S.Store c.has_past_last.new.conn)
    c.args.supplier.now c.in_ok-above.above c.if-above.true c.in_ok-above.ensures.looks

pub returns-clause-looks : goal.returns-clause-looks
returns-clause-looks g c =
    none_above (state g.S.Store c.args.conn.now) (state g.S.Store c.has_past_last.new.conn) c.args.supplier.now c.args.number c.args.limit
    c.in_ok-above.above c.new.result c.if-above.false (omega (arith, c.in_default.ensures.none)) c.new.ensures c.in_ok-above.ensures.looks

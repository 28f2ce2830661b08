use Rattle.std.proofs.Common.{Ok, subst}
use Rattle.sqlite.specs.Held.{state}
use Rattle.hub_schema.specs.State.{LooksUp}
use Rattle.hub_sql.specs.Marks.{Notes}
use Rattle.hub_sql.proofs.Lists.{list_looks, list_notes, listed}
use Rattle.hub_sql.proofs.mailbox.list_after.Goals as goal

pub returns-clause-looks : goal.returns-clause-looks
returns-clause-looks g c =
    let old = state g.S.Store c.args.conn.now in
    let new = state g.S.Store c.mail_after.new.conn in
    list_looks old new c.args.marks.now c.args.supplier.now c.args.number c.args.limit c.requires.taken (Ok c.in_ok-heads.heads)
    (subst (λ start. LooksUp (listed c.args.supplier.now start c.args.limit) old new (Ok c.in_ok-heads.heads))
    c.list_start-start.ensures c.in_ok-heads.ensures.looks)

pub returns-clause-taken : goal.returns-clause-taken
returns-clause-taken g c =
    let old = state g.S.Store c.args.conn.now in
    let new = state g.S.Store c.mail_after.new.conn in
    list_notes old new c.args.marks.now c.args.supplier.now c.args.number c.args.limit c.requires.taken c.in_ok-heads.heads
    c.note_shown.new.marks
    (subst (λ start. LooksUp (listed c.args.supplier.now start c.args.limit) old new (Ok c.in_ok-heads.heads))
    c.list_start-start.ensures c.in_ok-heads.ensures.looks)
    (subst (λ heads. Notes c.args.marks.now c.args.supplier.now c.args.number heads c.args.limit c.note_shown.new.marks)
    c.as_slice.ensures c.note_shown.ensures.notes)

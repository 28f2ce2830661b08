use Rattle.std.proofs.Common.{◌≡◌, IfOk, refl, subst}
use Rattle.hub_tables.specs.State.{entry_at}
use Rattle.hub_tables.specs.Tables.{view}
use Rattle.hub_law.specs.Mark.{Whole}
use Rattle.hub_law.specs.Replies.{entry_reply}
use Rattle.hub_law.specs.Requests.{taken}
use Rattle.hub_requests.specs.declared.reply.Reply.{Reply}
use Rattle.hub_requests.specs.declared.request.Request.TheVariants.{MailItem, MailTaken}
use Rattle.hub_core.specs.Callers.{request_of}
use Rattle.hub_register.specs.declared.caller.Caller.TheVariants.{Supplier}
use Rattle.hub_core.proofs.Asking.{by_look, by_act}
use Rattle.hub_core.proofs.Breaking.{by_call}
use Rattle.hub_core.proofs.requests.answer_supplier.Goals as goal

pub returns-in-Upload-clause-asked : goal.returns-in-Upload-clause-asked
returns-in-Upload-clause-asked g c may = rw c.in-Upload.is (rw c.as_slice.ensures at (c.upload.ensures.asked may))

pub returns-in-MailItem-clause-asked : goal.returns-in-MailItem-clause-asked
returns-in-MailItem-clause-asked g c may =
    let register = c.args.register.now in
    let t = g.S.Store.content c.args.store.now in
    let entry = entry_at (view c.args.supplier.now.gln t) c.in-MailItem.number in
    rw c.in-MailItem.is (by_look g.S.Store c.args.store.now c.mailbox_entry.new.store 1
    (request_of register (Supplier c.args.supplier) c.args.moment (MailItem c.in-MailItem.number)) c.mailbox_entry.result
    (entry_reply register.hub entry) c.mailbox_entry.ensures.stays
    (λ honest.
    subst (λ hub. IfOk c.mailbox_entry.result (λ (reply : Reply). reply ≡ entry_reply hub entry)) c.hub.ensures.value
    (c.mailbox_entry.ensures.reply honest)) refl)

pub returns-in-Upload-clause-breaks : goal.returns-in-Upload-clause-breaks
returns-in-Upload-clause-breaks g c = rw c.in-Upload.is (rw c.as_slice.ensures at c.upload.ensures.breaks)

pub returns-in-MailAfter-clause-breaks : goal.returns-in-MailAfter-clause-breaks
returns-in-MailAfter-clause-breaks g c =
    by_call g.S.Store.plain (request_of c.args.register.now (Supplier c.args.supplier) c.args.moment c.args.request.now)
    (g.S.Store.broken c.args.store.now) _ _ _ c.mailbox_list.ensures.fails

pub returns-in-MailItem-clause-breaks : goal.returns-in-MailItem-clause-breaks
returns-in-MailItem-clause-breaks g c =
    by_call g.S.Store.plain (request_of c.args.register.now (Supplier c.args.supplier) c.args.moment c.args.request.now)
    (g.S.Store.broken c.args.store.now) _ _ _ c.mailbox_entry.ensures.fails

pub returns-in-MailTaken-clause-breaks : goal.returns-in-MailTaken-clause-breaks
returns-in-MailTaken-clause-breaks g c =
    by_call g.S.Store.plain (request_of c.args.register.now (Supplier c.args.supplier) c.args.moment c.args.request.now)
    (g.S.Store.broken c.args.store.now) _ _ _ c.take_entry.ensures.fails

pub returns-in-Status-clause-breaks : goal.returns-in-Status-clause-breaks
returns-in-Status-clause-breaks g c =
    by_call g.S.Store.plain (request_of c.args.register.now (Supplier c.args.supplier) c.args.moment c.args.request.now)
    (g.S.Store.broken c.args.store.now) _ _ _ c.status_report.ensures.fails

pub returns-in-MailTaken-clause-asked : goal.returns-in-MailTaken-clause-asked
returns-in-MailTaken-clause-asked g c may =
    let register = c.args.register.now in
    let s = c.args.supplier.now in
    let number = c.in-MailTaken.number in
    rw c.in-MailTaken.is (by_act g.S.Store c.args.store.now c.take_entry.new.store 1
    (request_of register (Supplier c.args.supplier) c.args.moment (MailTaken number))
    (λ t. taken Whole (entry_at (view s.gln t) number) t)
    c.take_entry.result refl (λ t. refl) (c.take_entry.ensures.carried register s refl may.0 may.1) c.take_entry.ensures.unharmed)

use Rattle.std.proofs.Common.{refl}
use Rattle.hub_core.specs.Callers.{request_of}
use Rattle.hub_register.specs.declared.caller.Caller.TheVariants.{Retailer}
use Rattle.hub_core.proofs.Breaking.{by_call, by_answer}
use Rattle.hub_core.proofs.Callers.{delivers}
use Rattle.hub_parties.specs.Rows.{supplier_row}
use Rattle.hub_tables.specs.Tables.{view}
use Rattle.hub_law.specs.Replies.{done}
use Rattle.hub_law.specs.StatusText.{status_text}
use Rattle.hub_requests.specs.declared.request.Request.TheVariants.{StatusOf, Cancel, Join}
use Rattle.hub_law.specs.Mark.{Whole}
use Rattle.hub_law.specs.Requests.{answered, cancel_named, joined}
use Rattle.hub_core.proofs.Asking.{by_look, by_act, reported}
use Rattle.hub_core.proofs.requests.answer_retailer.Goals as goal

pub returns-in-Upload-clause-asked : goal.returns-in-Upload-clause-asked
returns-in-Upload-clause-asked g c here =
    rw c.in-Upload.is (rw c.as_slice-bytes.ensures at (c.upload.ensures.asked
    (delivers c.args.register.now (g.S.Store.content c.args.store.now) here)))

pub returns-in-Upload-clause-breaks : goal.returns-in-Upload-clause-breaks
returns-in-Upload-clause-breaks g c = rw c.in-Upload.is (rw c.as_slice-bytes.ensures at c.upload.ensures.breaks)

pub returns-in-Cancel-clause-breaks : goal.returns-in-Cancel-clause-breaks
returns-in-Cancel-clause-breaks g c =
    by_call g.S.Store.plain (request_of c.args.register.now Retailer c.args.moment c.args.request.now)
    (g.S.Store.broken c.args.store.now) _ _ _ c.take_cancel.ensures.fails

pub returns-then-is_some-clause-asked : goal.returns-then-is_some-clause-asked
returns-then-is_some-clause-asked g c here =
    let register = c.args.register.now in
    let gln = c.in-StatusOf.gln in
    let t = g.S.Store.content c.args.store.now in
    let state = view gln t in
    let says = reported c.supplier.result (supplier_row register.suppliers gln) state c.if-is_some.ensures c.supplier.ensures.value in
    rw c.in-StatusOf.is (by_look g.S.Store c.args.store.now c.status_report.new.store 1
    (request_of register Retailer c.args.moment (StatusOf gln)) c.status_report.result (done (status_text state))
    c.status_report.ensures.stays
    (λ honest. c.status_report.ensures.reply honest (here.sound.sound.kept gln)) (λ i. (says i, t)))

pub returns-in-Cancel-clause-asked : goal.returns-in-Cancel-clause-asked
returns-in-Cancel-clause-asked g c here =
    let register = c.args.register.now in
    let may = delivers register (g.S.Store.content c.args.store.now) here in
    let cancel = c.in-Cancel.cancel in
    rw c.in-Cancel.is (by_act g.S.Store c.args.store.now c.take_cancel.new.store 1
    (request_of register Retailer c.args.moment (Cancel cancel)) (λ t. answered Whole (cancel_named register cancel t) t)
    c.take_cancel.result refl (λ t. refl) (c.take_cancel.ensures.carried may.0 may.1) c.take_cancel.ensures.unharmed)

pub returns-in-Join-clause-asked : goal.returns-in-Join-clause-asked
returns-in-Join-clause-asked g c here =
    let register = c.args.register.now in
    let row = c.in-Join.join in
    rw c.in-Join.is (by_act g.S.Store c.args.store.now c.take_join.new.store 1
    (request_of register Retailer c.args.moment (Join row)) (joined register Whole row)
    c.take_join.result refl (λ t. refl) (c.take_join.ensures.carried here.sound here.held) c.take_join.ensures.unharmed)

pub returns-in-Join-clause-held : goal.returns-in-Join-clause-held
returns-in-Join-clause-held g c row is honest here = c.take_join.ensures.same honest here.sound here.held

pub returns-in-Join-clause-same : goal.returns-in-Join-clause-same
returns-in-Join-clause-same g c other = absurd (other c.in-Join.join c.in-Join.is)

pub returns-in-Join-clause-breaks : goal.returns-in-Join-clause-breaks
returns-in-Join-clause-breaks g c =
    let register = c.args.register.now in
    rw c.in-Join.is (by_answer g.S.Store.plain (request_of register Retailer c.args.moment (Join c.in-Join.join))
    (g.S.Store.broken c.args.store.now) _ _ _ c.take_join.ensures.fails)

use Rattle.std.proofs.Common.{ap, subst, sym, ◌∙◌}
use Rattle.hub_law.specs.Mark.{Whole}
use Rattle.hub_law.specs.Opening.{Opened}
use Rattle.hub_law.specs.Requests.{uploaded}
use Rattle.hub_core.specs.Broken.{Breaks}
use Rattle.hub_core.specs.Callers.{delivered, addressed_by}
use Rattle.hub_core.specs.Opened as spec
use Rattle.hub_core.proofs.Asking.{upload_refused, upload_taken}
use Rattle.hub_core.proofs.Breaking.{unasked}
use Rattle.hub_core.proofs.requests.take_opened.Goals as goal

pub returns-in-Some-clause-asked : goal.returns-in-Some-clause-asked
returns-in-Some-clause-asked g c may =
    let register = c.args.register.now in
    let opening = addressed_by register c.args.caller in
    let is = ap opening (ap spec.with_code c.in-Ok.is) ∙ c.in-Some.ensures.some in
    upload_refused g.S.Store (delivered register c.args.caller) c.args.moment
    c.args.store.now (opening (spec.with_code c.args.upload))
    c.in-Some.code.now c.in_ok-refused_upload.field-0 is c.in_ok-refused_upload.ensures

pub returns-clause-asked : goal.returns-clause-asked
returns-clause-asked g c may =
    let register = c.args.register.now in
    let opening = addressed_by register c.args.caller in
    let is = ap opening (ap spec.with_code c.in-Ok.is) ∙ c.in_default.ensures.none in
    upload_taken g.S.Store (delivered register c.args.caller) c.args.moment
    c.args.store.now c.take_messages.new.store (opening (spec.with_code c.args.upload))
    c.in-Ok.interchange c.take_messages.result is (λ honest. c.take_messages.ensures.answered honest may)

pub returns-in-Some-clause-breaks : goal.returns-in-Some-clause-breaks
returns-in-Some-clause-breaks g c =
    let register = c.args.register.now in
    let opening = addressed_by register c.args.caller in
    let is = ap opening (ap spec.with_code c.in-Ok.is) ∙ c.in-Some.ensures.some in
    unasked g.S.Store.plain
    (λ mark t. uploaded (delivered register c.args.caller) c.args.moment mark (opening (spec.with_code c.args.upload)) t)
    (g.S.Store.broken c.args.store.now) c.in_ok-refused_upload.field-0
    (λ t. ap (λ opened. uploaded (delivered register c.args.caller) c.args.moment Whole opened t) is
    ∙ ap (λ reply. (reply, t)) (sym c.in_ok-refused_upload.ensures))

pub returns-clause-breaks : goal.returns-clause-breaks
returns-clause-breaks g c =
    let register = c.args.register.now in
    let opening = addressed_by register c.args.caller in
    let is = ap opening (ap spec.with_code c.in-Ok.is) ∙ c.in_default.ensures.none in
    subst (λ (opened : Opened). Breaks g.S.Store.plain
    (λ mark t. uploaded (delivered register c.args.caller) c.args.moment mark opened t)
    (g.S.Store.broken c.args.store.now) (g.S.Store.broken c.take_messages.new.store) c.take_messages.result) (sym is)
    c.take_messages.ensures.breaks

use Rattle.std.proofs.Common.{[], sym, ◌∙◌}
use Rattle.hub_core.specs.Callers.{addressed_by}
use Rattle.hub_requests.specs.declared.request.Request.TheVariants.{Upload}
use Rattle.hub_core.specs.Opened as spec
use Rattle.hub_core.specs.Steps.{input_of}
use Rattle.hub_core.proofs.Callers.{asked_as, may, opened_asked}
use Rattle.hub_core.proofs.Uploading.{opened_sound}
use Rattle.hub_core.proofs.Openings.{opened_before}
use Rattle.hub_core.proofs.Breaking.{breaks_as, opened_breaks}
use Rattle.hub_core.proofs.step.answer_opened.Goals as goal

pub returns-in-Some-clause-asked : goal.returns-in-Some-clause-asked
returns-in-Some-clause-asked g c bytes opens =
    let register = c.args.register.now in
    let is = opened_before bytes c.args.upload c.requires.read c.in_ok-upload.ensures.sufficed opens ∙ sym c.in_ok-upload.ensures.told in
    asked_as register (input_of c.args.moment c.args.caller.now c.args.key.now (Upload bytes))
    g.S.Store c.args.store.now c.take_opened.new.store
    c.in-Some.caller c.take_opened.result c.in-Some.ensures.some
    (opened_asked g.S.Store c.args.store.now c.take_opened.new.store register c.in-Some.caller
    c.args.moment bytes (spec.with_code c.in_ok-upload.upload) c.take_opened.result is c.take_opened.ensures.asked)

pub returns-in-Some-clause-held : goal.returns-in-Some-clause-held
returns-in-Some-clause-held g c honest here =
    let register = c.args.register.now in
    let t = g.S.Store.content c.args.store.now in
    let input = input_of c.args.moment c.args.caller.now c.args.key.now (Upload []) in
    let deliver = may register input t c.in-Some.caller c.in-Some.ensures.some here in
    opened_sound g.S.Store c.args.store.now c.take_opened.new.store
    (record {
      of_suppliers = c.acts_stay_sound.ensures.suppliers;
      of_retailers = c.acts_stay_sound.ensures.retailers;
      suppliers_keep = c.acts_keep_the_register.ensures.suppliers;
      retailers_keep = c.acts_keep_the_register.ensures.retailers;
    })
    register c.in-Some.caller c.args.moment (addressed_by register c.in-Some.caller (spec.with_code c.in_ok-upload.upload)) _
    c.take_opened.result deliver (c.take_opened.ensures.asked deliver) honest here

pub returns-in-Some-clause-breaks : goal.returns-in-Some-clause-breaks
returns-in-Some-clause-breaks g c bytes opens =
    let register = c.args.register.now in
    let is = opened_before bytes c.args.upload c.requires.read c.in_ok-upload.ensures.sufficed opens ∙ sym c.in_ok-upload.ensures.told in
    breaks_as g.S.Store.plain register (input_of c.args.moment c.args.caller.now c.args.key.now (Upload bytes))
    (g.S.Store.broken c.args.store.now) (g.S.Store.broken c.take_opened.new.store) c.in-Some.caller c.take_opened.result
    c.in-Some.ensures.some
    (opened_breaks g.S.Store.plain register c.in-Some.caller c.args.moment bytes (spec.with_code c.in_ok-upload.upload)
    (g.S.Store.broken c.args.store.now) (g.S.Store.broken c.take_opened.new.store) c.take_opened.result is c.take_opened.ensures.breaks)

use Rattle.std.proofs.Common.{rules, sym, ap, ◌∙◌}
use Rattle.hub_tables.specs.Register.{register_of}
use Rattle.hub_register.specs.Caller.{IsCaller}
use Rattle.hub_core.specs.Callers.{acts_by, request_of}
use Rattle.hub_core.specs.Steps.{input_of}
use Rattle.hub_register.specs.declared.caller.Caller.TheVariants.{Retailer, Supplier}
use Rattle.hub_law.specs.Mark.{Whole}
use Rattle.hub_core.specs.Broken.{does_input}
use Rattle.hub_core.proofs.Breaking.{breaks_as}
use Rattle.hub_core.proofs.Callers.{asked_as, may, step_is}
use Rattle.hub_core.proofs.Keeping.{content_kept, join_as}
use Rattle.hub_core.proofs.step.answer.Goals as goal

pub returns-in-Some-Supplier-clause-asked : goal.returns-in-Some-Supplier-clause-asked
returns-in-Some-Supplier-clause-asked g c here =
    let register = c.args.register.now in
    let input = input_of c.args.moment c.args.caller.now c.args.key.now c.args.request.now in
    let known : IsCaller register c.args.caller.now c.args.key.now (Supplier c.in-Some-Supplier.supplier) = search rules in
    asked_as register input g.S.Store c.args.store.now c.answer_supplier.new.store
    (Supplier c.in-Some-Supplier.supplier) c.answer_supplier.result known c.answer_supplier.ensures.asked here

pub returns-in-Some-Supplier-clause-held : goal.returns-in-Some-Supplier-clause-held
returns-in-Some-Supplier-clause-held g c row is honest here =
    let register = c.args.register.now in
    let supplier = c.in-Some-Supplier.supplier in
    let input = input_of c.args.moment c.args.caller.now c.args.key.now c.args.request.now in
    let known : IsCaller register c.args.caller.now c.args.key.now (Supplier supplier) = search rules in
    here.held
    ∙ sym (ap register_of (content_kept g.S.Store c.args.store.now
    c.answer_supplier.new.store (acts_by register (Supplier supplier) c.args.request.now)
    (request_of register (Supplier supplier) c.args.moment c.args.request.now) c.answer_supplier.result
    (λ mark t. ap (λ request. (request_of register (Supplier supplier) c.args.moment request mark t).1) is)
    (c.answer_supplier.ensures.asked (may register input (g.S.Store.content c.args.store.now) (Supplier supplier) known here))
    honest))

pub returns-in-Some-Retailer-clause-asked : goal.returns-in-Some-Retailer-clause-asked
returns-in-Some-Retailer-clause-asked g c here =
    let register = c.args.register.now in
    let input = input_of c.args.moment c.args.caller.now c.args.key.now c.args.request.now in
    let known : IsCaller register c.args.caller.now c.args.key.now Retailer = search rules in
    asked_as register input g.S.Store c.args.store.now c.answer_retailer.new.store
    Retailer c.answer_retailer.result known (λ _. c.answer_retailer.ensures.asked here) here

pub returns-in-Some-Supplier-clause-joined : goal.returns-in-Some-Supplier-clause-joined
returns-in-Some-Supplier-clause-joined g c row is =
    let register = c.args.register.now in
    let input = input_of c.args.moment c.args.caller.now c.args.key.now c.args.request.now in
    let known : IsCaller register c.args.caller.now c.args.key.now (Supplier c.in-Some-Supplier.supplier) = search rules in
    join_as row register register (request_of register (Supplier c.in-Some-Supplier.supplier) c.args.moment c.args.request.now)
    (does_input register input) c.answer_supplier.result
    (step_is register input (Supplier c.in-Some-Supplier.supplier) known Whole) (c.answer_supplier.ensures.joined row is)

pub returns-in-Some-Retailer-clause-joined : goal.returns-in-Some-Retailer-clause-joined
returns-in-Some-Retailer-clause-joined g c row is =
    let register = c.args.register.now in
    let input = input_of c.args.moment c.args.caller.now c.args.key.now c.args.request.now in
    let known : IsCaller register c.args.caller.now c.args.key.now Retailer = search rules in
    join_as row register c.answer_retailer.new.register (request_of register Retailer c.args.moment c.args.request.now)
    (does_input register input) c.answer_retailer.result
    (step_is register input Retailer known Whole) (c.answer_retailer.ensures.joined row is)

pub returns-in-Some-Supplier-clause-breaks : goal.returns-in-Some-Supplier-clause-breaks
returns-in-Some-Supplier-clause-breaks g c =
    let register = c.args.register.now in
    let input = input_of c.args.moment c.args.caller.now c.args.key.now c.args.request.now in
    let known : IsCaller register c.args.caller.now c.args.key.now (Supplier c.in-Some-Supplier.supplier) = search rules in
    breaks_as g.S.Store.plain register input (g.S.Store.broken c.args.store.now) (g.S.Store.broken c.answer_supplier.new.store)
    (Supplier c.in-Some-Supplier.supplier) c.answer_supplier.result known c.answer_supplier.ensures.breaks

pub returns-in-Some-Retailer-clause-breaks : goal.returns-in-Some-Retailer-clause-breaks
returns-in-Some-Retailer-clause-breaks g c =
    let register = c.args.register.now in
    let input = input_of c.args.moment c.args.caller.now c.args.key.now c.args.request.now in
    let known : IsCaller register c.args.caller.now c.args.key.now Retailer = search rules in
    breaks_as g.S.Store.plain register input (g.S.Store.broken c.args.store.now) (g.S.Store.broken c.answer_retailer.new.store)
    Retailer c.answer_retailer.result known c.answer_retailer.ensures.breaks

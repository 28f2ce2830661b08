use Rattle.std.proofs.Common.{◌+◌, ◌∷◌, drop, sym, ap, subst, ◌∙◌}
use Rattle.std.specs.List.{AllByRecursion}
use Rattle.std.proofs.lemmas.List.{drop_more, drop_all}
use Rattle.edi_goods.specs.declared.despatch.Unit.{Unit}
use Rattle.hub_naming.specs.Lines.{NamesLines}
use Rattle.hub_naming.proofs.Numbers.{all_named_later}
use Rattle.hub_naming.proofs.lines.lines_named.Goals as goal

pub loop-unit-preserved : goal.loop-unit-preserved
loop-unit-preserved c = λ later more rest.
    let units = c.args.units.now in
    let unit = c.unit-item.result in
    let next = drop_more units c.loop-unit.unit-index unit c.loop-unit-test.true
    ∙ ap (λ one. one ∷ drop (c.loop-unit.unit-index + 1) units) (sym c.unit-item.is) in
    c.loop-unit.invariant later (λ order number named. more order number (c.in_ok-put_lines.ensures.others order number named))
    (subst (AllByRecursion (λ (unit : Unit). NamesLines later unit.lines)) (sym next) (
      all_named_later c.put_lines.new.named.entries later unit.lines more
          (subst (NamesLines c.put_lines.new.named.entries) c.as_slice.ensures c.in_ok-put_lines.ensures.named),
      rest,
    ))

pub returns : goal.returns
returns c =
    c.loop-unit.invariant c.loop-unit.named.entries (λ order number named. named)
    (subst (AllByRecursion (λ (unit : Unit). NamesLines c.loop-unit.named.entries unit.lines))
    (sym (drop_all c.loop-unit.unit-index c.args.units.now c.loop-unit-test.false)) tt)

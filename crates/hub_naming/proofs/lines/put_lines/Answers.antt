use Rattle.std.proofs.Common.{◌+◌, ◌∷◌, drop, sym, ap, subst, ◌∙◌}
use Rattle.std.proofs.lemmas.List.{drop_more, drop_all}
use Rattle.hub_naming.specs.Lines.{NamesLines}
use Rattle.hub_naming.proofs.lines.put_lines.Goals as goal

pub loop-line-preserved : goal.loop-line-preserved
loop-line-preserved c = record {
  more = λ order number named. c.in_ok-put_line.ensures.others order number (c.loop-line.invariant.more order number named);
  named = λ later more rest.
      let lines = c.args.lines.now in
      let line = c.line-item.result in
      let next = drop_more lines c.loop-line.line-index line c.loop-line-test.true
      ∙ ap (λ one. one ∷ drop (c.loop-line.line-index + 1) lines) (sym c.line-item.is) in
      c.loop-line.invariant.named later (λ order number named. more order number (c.in_ok-put_line.ensures.others order number named))
      (subst (NamesLines later) (sym next) (more line.order line.order_line c.in_ok-put_line.ensures.named, rest));
}

pub returns-clause-named : goal.returns-clause-named
returns-clause-named c =
    c.loop-line.invariant.named c.loop-line.named.entries (λ order number named. named)
    (subst (NamesLines c.loop-line.named.entries) (sym (drop_all c.loop-line.line-index c.args.lines.now c.loop-line-test.false)) tt)

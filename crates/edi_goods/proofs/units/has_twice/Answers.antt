use Rattle.std.proofs.Common.{◌≡◌, true, false, ◌||◌, sym, ap, ◌∙◌}
use Rattle.std.specs.Str.{bytes_eq}
use Rattle.std.proofs.lemmas.Bool.{not-true, not-false}
use Rattle.edi_base.specs.Seen.{is_among}
use Rattle.edi_base.proofs.Twice.{bytes_eq-sym, comes_again, comes_first, among_more}
use Rattle.edi_goods.proofs.units.has_twice.Goals as goal

pub returns-then-not-branch-clause-ok : goal.returns-then-not-branch-clause-ok
returns-then-not-branch-clause-ok c =
    let sscc = c.sscc-item.result in
    let found : is_among c.digits.result.now c.loop-sscc.seen ≡ true =
    not-false _ (sym c.in_ok-insert.ensures.new ∙ c.if-not-branch.true) in
    sym (comes_again bytes_eq bytes_eq-sym c.args.ssccs.now c.loop-sscc.sscc-index sscc c.loop-sscc-test.true c.sscc-item.is
    (sym (c.loop-sscc.invariant.seen sscc) ∙ rw (← c.digits.ensures.value) found))

pub loop-sscc-preserved : goal.loop-sscc-preserved
loop-sscc-preserved c =
    let sscc = c.sscc-item.result in
    let ssccs = c.args.ssccs.now in
    let i = c.loop-sscc.sscc-index in
    let new : is_among c.digits.result.now c.loop-sscc.seen ≡ false = not-true _ (sym c.in_ok-insert.ensures.new ∙ c.if-not-branch.false) in
    record {
      once =
          comes_first bytes_eq bytes_eq-sym ssccs i sscc c.loop-sscc-test.true c.sscc-item.is c.loop-sscc.invariant.once
          (sym (c.loop-sscc.invariant.seen sscc) ∙ rw (← c.digits.ensures.value) new);
      seen = λ text.
          c.in_ok-insert.ensures.seen text ∙ ap (λ t. bytes_eq text t || is_among text c.loop-sscc.seen) c.digits.ensures.value
          ∙ ap (λ rest. bytes_eq text sscc || rest) (c.loop-sscc.invariant.seen text)
          ∙ sym (among_more bytes_eq bytes_eq-sym ssccs i sscc c.loop-sscc-test.true c.sscc-item.is text);
    }

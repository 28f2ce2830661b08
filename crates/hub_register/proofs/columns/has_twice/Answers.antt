use Rattle.std.proofs.Common.{◌≡◌, true, false, ◌||◌, sym, ap, ◌∙◌}
use Rattle.std.specs.Str.{bytes_eq}
use Rattle.std.proofs.lemmas.Bool.{not-true, not-false}
use Rattle.edi_base.specs.Seen.{is_among}
use Rattle.edi_base.proofs.Twice.{bytes_eq-sym, comes_again, comes_first, among_more}
use Rattle.hub_register.proofs.columns.has_twice.Goals as goal

pub returns-then-not-branch-clause-ok : goal.returns-then-not-branch-clause-ok
returns-then-not-branch-clause-ok c =
    let gln = c.gln-item.result in
    let found : is_among c.digits.result.now c.loop-gln.seen ≡ true = not-false _ (sym c.in_ok-insert.ensures.new ∙ c.if-not-branch.true) in
    sym (comes_again bytes_eq bytes_eq-sym c.args.glns.now c.loop-gln.gln-index gln c.loop-gln-test.true c.gln-item.is
    (sym (c.loop-gln.invariant.seen gln) ∙ rw (← c.digits.ensures.value) found))

pub loop-gln-preserved : goal.loop-gln-preserved
loop-gln-preserved c =
    let gln = c.gln-item.result in
    let glns = c.args.glns.now in
    let i = c.loop-gln.gln-index in
    let new : is_among c.digits.result.now c.loop-gln.seen ≡ false = not-true _ (sym c.in_ok-insert.ensures.new ∙ c.if-not-branch.false) in
    record {
      once =
          comes_first bytes_eq bytes_eq-sym glns i gln c.loop-gln-test.true c.gln-item.is c.loop-gln.invariant.once
          (sym (c.loop-gln.invariant.seen gln) ∙ rw (← c.digits.ensures.value) new);
      seen = λ text.
          c.in_ok-insert.ensures.seen text ∙ ap (λ t. bytes_eq text t || is_among text c.loop-gln.seen) c.digits.ensures.value
          ∙ ap (λ rest. bytes_eq text gln || rest) (c.loop-gln.invariant.seen text)
          ∙ sym (among_more bytes_eq bytes_eq-sym glns i gln c.loop-gln-test.true c.gln-item.is text);
    }

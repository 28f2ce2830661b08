use Rattle.std.proofs.Common.{◌≡◌, true, false, nat_eq, ◌||◌, map, get_or, sym, ap, ◌∙◌}
use Rattle.std.proofs.lemmas.Bool.{not-true, not-false}
use Rattle.std.proofs.lemmas.List.{get_or_default}
use Rattle.edi_base.specs.Seen.{comes_among}
use Rattle.edi_base.proofs.Twice.{nat_eq-sym, number_itself, number-insert, contains-number, comes_again, comes_first, among_more}
use Rattle.edi_base.proofs.seen.number_twice.Goals as goal

pub returns-then-not-branch : goal.returns-then-not-branch
returns-then-not-branch c =
    let numbers = c.args.numbers.now in
    let i = c.loop-number.number-index in
    let number = get_or numbers i 0 in
    let at : number ≡ get_or numbers i number = get_or_default numbers i 0 number c.loop-number-test.true in
    let found : comes_among nat_eq number (map number_itself c.loop-number.seen.keys) ≡ true =
    sym (contains-number number c.loop-number.seen.keys) ∙ not-false _ (sym c.in_ok-insert.ensures.added ∙ c.if-not-branch.true) in
    sym (comes_again nat_eq nat_eq-sym numbers i number c.loop-number-test.true at (sym (c.loop-number.invariant.seen number) ∙ found))

pub loop-number-preserved : goal.loop-number-preserved
loop-number-preserved c =
    let numbers = c.args.numbers.now in
    let i = c.loop-number.number-index in
    let number = get_or numbers i 0 in
    let at : number ≡ get_or numbers i number = get_or_default numbers i 0 number c.loop-number-test.true in
    let new : comes_among nat_eq number (map number_itself c.loop-number.seen.keys) ≡ false =
    sym (contains-number number c.loop-number.seen.keys) ∙ not-true _ (sym c.in_ok-insert.ensures.added ∙ c.if-not-branch.false) in
    record {
      once =
          comes_first nat_eq nat_eq-sym numbers i number c.loop-number-test.true at c.loop-number.invariant.once
          (sym (c.loop-number.invariant.seen number) ∙ new);
      seen = λ other.
          ap (λ keys. comes_among nat_eq other (map number_itself keys)) c.in_ok-insert.ensures.keys
          ∙ number-insert other c.loop-number.seen.keys number
          ∙ ap (λ rest. nat_eq other number || rest) (c.loop-number.invariant.seen other)
          ∙ sym (among_more nat_eq nat_eq-sym numbers i number c.loop-number-test.true at other);
    }

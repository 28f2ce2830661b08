use Rattle.std.proofs.Common.{◌≡◌, ◌≤◌, true, refl, sym, ◌∙◌, arith}
use Rattle.std.proofs.lemmas.Bool.{le-leb}
use Rattle.edi_base.specs.Limits as spec
use Rattle.edi_base.proofs.Numbers.{count_below}
use Rattle.edi_base.proofs.limits.count_of.Goals as goal

pub returns : goal.returns
returns c =
    let count : spec.is_count c.args.bytes.now ≡ true = sym c.are_digits.ensures ∙ c.if-not-are_digits.false in
    let below : spec.number_of c.args.bytes.now ≤ spec.greatest = omega (arith, count_below c.args.bytes.now count) in
    c.value_of.ensures ∙ rw (le-leb _ _ below, count) refl

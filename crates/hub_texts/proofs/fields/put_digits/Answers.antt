use Rattle.std.proofs.Common.{rules, arith, refl, ℕ, ◌+◌, ◌<◌, ◌≤◌, ◌^◌, length, decimal}
use Rattle.std.proofs.lemmas.Fmt.{length-decimal-le}
use Rattle.hub_texts.proofs.FilledFields.{filled}
use Rattle.hub_texts.proofs.fields.put_digits.Goals as goal

few : (n : ℕ) → n < 2 ^ 64 → length (decimal n) ≤ 20
few n fits = length-decimal-le 20 n (omega arith) (omega (arith, fits)) fits

pub write_digits-start-requires : goal.write_digits-start-requires
write_digits-start-requires c = search (rules, few)

pub overflow_sub-from : goal.overflow_sub-from
overflow_sub-from c =
    omega (arith, c.requires, c.min.ensures, c.write_digits-start.ensures.start, few c.args.number c.ranges.number.fits)

pub returns : goal.returns
returns c =
    let written = c.write_digits-start.ensures in
    let wide : c.args.gap + c.args.width ≤ 24 = omega (arith, c.requires, c.if-width-ge-FIELD.false) in
    let long : c.args.gap + length (decimal c.args.number) ≤ 24 =
    omega (arith, c.requires, few c.args.number c.ranges.number.fits)
    in
    search (
      rules,
      filled 48 24 _ _ c.args.gap c.args.width _ _ refl wide long (omega arith) written.start written.before written.written,
    )

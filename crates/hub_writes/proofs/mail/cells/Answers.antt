use Rattle.std.proofs.Common.{◌<◌, ◌^◌, arith, refl}
use Rattle.hub_writes.proofs.mail.cells.Goals as goal

pub returns-clause-cells : goal.returns-clause-cells
returns-clause-cells c = rw (
  c.gln_value-supplier.ensures,
  c.value-number.ensures.value,
  c.moment_value-moment.ensures.value,
  c.byte_value-decimal.ensures,
  c.kind_value-kind.ensures.value,
  c.text_value-document.ensures,
  c.text_value-body.ensures,
  c.truth_value-taken.ensures.value,
) refl

pub returns-clause-low : goal.returns-clause-low
returns-clause-low c =
    let number : c.args.number < 2 ^ 64 = omega (arith, c.value-number.ensures.low) in
    let moment : c.args.row.now.moment < 2 ^ 64 = omega (arith, c.moment_value-moment.ensures.low) in
    let decimal : c.args.row.now.decimal < 2 ^ 64 = omega arith in
    let kind : c.args.row.now.kind < 2 ^ 64 = omega (arith, c.kind_value-kind.ensures.low) in
    let taken : c.args.row.now.taken < 2 ^ 64 = omega (arith, c.truth_value-taken.ensures.low) in
    (number, moment, decimal, kind, taken)

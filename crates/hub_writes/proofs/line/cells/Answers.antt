use Rattle.std.proofs.Common.{◌<◌, ◌^◌, arith, refl}
use Rattle.hub_writes.proofs.line.cells.Goals as goal

pub returns-clause-cells : goal.returns-clause-cells
returns-clause-cells c = rw (
  c.gln_value-supplier.ensures,
  c.text_value-number.ensures,
  c.count_value-line.ensures,
  c.gtin_value-gtin.ensures,
  c.count_value-ordered.ensures,
  c.count_value-open_qty.ensures,
  c.count_value-refused.ensures,
  c.count_value-cancelled.ensures,
  c.answer_value-answer.ensures.value,
) refl

pub returns-clause-low : goal.returns-clause-low
returns-clause-low c =
    let line : c.args.row.now.line < 2 ^ 64 = omega arith in
    let ordered : c.args.row.now.ordered < 2 ^ 64 = omega arith in
    let open_qty : c.args.row.now.open_qty < 2 ^ 64 = omega arith in
    let refused : c.args.row.now.refused < 2 ^ 64 = omega arith in
    let cancelled : c.args.row.now.cancelled < 2 ^ 64 = omega arith in
    let answer : c.args.row.now.answer < 2 ^ 64 = omega (arith, c.answer_value-answer.ensures.low) in
    (line, ordered, open_qty, refused, cancelled, answer)

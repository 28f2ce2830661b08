use Rattle.std.proofs.Common.{arith, refl}
use Rattle.hub_writes.proofs.pallet.cells.Goals as goal

pub returns-clause-cells : goal.returns-clause-cells
returns-clause-cells c = rw (
  c.sscc_value-sscc.ensures,
  c.gln_value-supplier.ensures,
  c.text_value-advice.ensures,
  c.arrival_value-received.ensures.value,
) refl

pub returns-clause-low : goal.returns-clause-low
returns-clause-low c = omega (arith, c.arrival_value-received.ensures.low)

use Rattle.gs1_ids.proofs.Overlaps.{one_supplier}
use Rattle.gs1_ids.proofs.overlap.sscc_has_one_supplier.Goals as goal

pub returns : goal.returns
returns c = one_supplier

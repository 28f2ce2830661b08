use Rattle.std.proofs.Common.{refl}
use Rattle.hub_writes.proofs.party.key_cells.Goals as goal

pub returns : goal.returns
returns c = rw (c.gln_value-supplier.ensures, c.key_value-key.ensures) refl

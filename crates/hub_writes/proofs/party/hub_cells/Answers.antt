use Rattle.std.proofs.Common.{refl}
use Rattle.hub_writes.proofs.party.hub_cells.Goals as goal

pub returns : goal.returns
returns c = rw (c.gln_value-hub.ensures, c.gln_value-retailer.ensures, c.key_value-key.ensures) refl

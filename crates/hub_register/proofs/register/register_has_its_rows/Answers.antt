use Rattle.hub_register.proofs.Permuted.{its_rows}
use Rattle.hub_register.proofs.register.register_has_its_rows.Goals as goal

pub returns : goal.returns
returns c = its_rows

use Rattle.hub_tables.proofs.Sets.{rows_are_one}
use Rattle.hub_tables.proofs.laws.rows_are_a_set.Goals as goal

pub returns : goal.returns
returns c = rows_are_one

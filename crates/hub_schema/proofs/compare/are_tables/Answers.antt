use Rattle.hub_schema.proofs.Compared.{none_numbered}
use Rattle.hub_schema.proofs.compare.are_tables.Goals as goal

pub returns-in_default : goal.returns-in_default
returns-in_default c = none_numbered c.args.tables.now 0 c.args.definitions.now c.is_empty.result
    c.in_default.len_below c.is_empty.ensures

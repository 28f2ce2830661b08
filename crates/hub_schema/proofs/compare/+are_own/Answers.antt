use Rattle.hub_schema.proofs.Compared.{none_own}
use Rattle.hub_schema.proofs.compare.+are_own.Goals as goal

pub returns-in_default : goal.returns-in_default
returns-in_default t c = none_own c.args.indexes.now c.args.table _ _ c.args.keys.now c.is_empty.result
    c.in_default.len_below c.is_empty.ensures

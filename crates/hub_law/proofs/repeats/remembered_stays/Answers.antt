use Rattle.hub_tables.specs.Tables.{view}
use Rattle.hub_law.proofs.Staying.{all_retailers_stay, all_suppliers_stay, run_stays}
use Rattle.hub_law.proofs.repeats.remembered_stays.Goals as goal

pub returns-clause-retailers : goal.returns-clause-retailers
returns-clause-retailers c = all_retailers_stay

pub returns-clause-suppliers : goal.returns-clause-suppliers
returns-clause-suppliers c parties s sents t = all_suppliers_stay (view s.gln) parties s sents t

pub returns-clause-run : goal.returns-clause-run
returns-clause-run c = run_stays

use Rattle.gs1_ids.proofs.Decided.{Decides-is_key}
use Rattle.hub_rows.proofs.values.gln_again.Goals as goal

pub returns-then-eq-clause-right : goal.returns-then-eq-clause-right
returns-then-eq-clause-right c = (Decides-is_key 13 c.in-Some.gln.now).1 c.digits.ensures.valid

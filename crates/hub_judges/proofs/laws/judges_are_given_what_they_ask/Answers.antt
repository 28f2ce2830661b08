use Rattle.edi_goods.proofs.Read.{receipt_sums}
use Rattle.hub_judges.proofs.Given.{seen_rise, seen_covered, seen_step_up, seen_rows_covered}
use Rattle.hub_judges.proofs.Holding.{units_hold}
use Rattle.hub_judges.proofs.laws.judges_are_given_what_they_ask.Goals as goal

pub returns-clause-rise : goal.returns-clause-rise
returns-clause-rise c suppliers gln t test sound = seen_rise suppliers gln t test sound

pub returns-clause-covered : goal.returns-clause-covered
returns-clause-covered c suppliers gln t test sound = seen_covered suppliers gln t test sound

pub returns-clause-steps : goal.returns-clause-steps
returns-clause-steps c suppliers gln t test sound = seen_step_up suppliers gln t test sound

pub returns-clause-rows_covered : goal.returns-clause-rows_covered
returns-clause-rows_covered c suppliers gln t test sound = seen_rows_covered suppliers gln t test sound

pub returns-clause-sums : goal.returns-clause-sums
returns-clause-sums c message receipt h = units_hold receipt.units (receipt_sums message receipt h)

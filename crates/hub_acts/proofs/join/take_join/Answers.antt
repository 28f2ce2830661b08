use Rattle.hub_acts.proofs.join.take_join.Goals as goal

pub returns-clause-refused : goal.returns-clause-refused
returns-clause-refused g c = λ no. (c.carry_out_join.ensures.refused no).2

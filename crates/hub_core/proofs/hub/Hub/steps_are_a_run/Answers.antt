use Rattle.hub_core.proofs.Steps.{ran_none, ran_more}
use Rattle.hub_core.proofs.hub.Hub.steps_are_a_run.Goals as goal

pub returns-clause-none : goal.returns-clause-none
returns-clause-none g c store here =
    ran_none c.laws_of_the_machine.ensures (g.S.Store.content store) (g.S.Store.left store) here

pub returns-clause-more : goal.returns-clause-more
returns-clause-more g c old between new inputs replies input reply here ran step =
    ran_more c.laws_of_the_machine.ensures (g.S.Store.content old)
    (g.S.Store.content between) (g.S.Store.content new) (g.S.Store.left old) (g.S.Store.left between) (g.S.Store.left new)
    inputs input replies reply here ran step

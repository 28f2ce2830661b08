use Rattle.hub_law.proofs.Repeated.{named_repeated, suppliers_repeated, cancellation_repeated}
use Rattle.hub_law.proofs.repeats.accepted_is_repeated.Goals as goal

pub returns-clause-retailers : goal.returns-clause-retailers
returns-clause-retailers c register message incoming moment decimal t u was =
    named_repeated register.suppliers register (message, incoming) moment decimal t u was.accepted was.remembered was.sound

pub returns-clause-suppliers : goal.returns-clause-suppliers
returns-clause-suppliers c suppliers parties s message incoming moment decimal t u was =
    suppliers_repeated suppliers parties s (message, incoming) moment decimal t u was.accepted was.remembered was.sound

pub returns-clause-cancellation : goal.returns-clause-cancellation
returns-clause-cancellation c register cancellation t u was =
    cancellation_repeated register.suppliers register cancellation t u was.accepted was.remembered was.sound

use Rattle.std.proofs.Common.{refl}
use Rattle.hub_founding.proofs.Beside.{held_beside, back_beside, others_stay}
use Rattle.hub_founding.proofs.laws.rows_beside_stay.Goals as goal

pub returns-clause-holds : goal.returns-clause-holds
returns-clause-holds c = λ register t. held_beside t register

pub returns-clause-same : goal.returns-clause-same
returns-clause-same c = λ register t. back_beside t register

pub returns-clause-stays : goal.returns-clause-stays
returns-clause-stays c = λ register t. others_stay t register

pub returns-clause-nothing : goal.returns-clause-nothing
returns-clause-nothing c = λ register. refl

use Rattle.hub_rekey.proofs.Tables.{seen, unseen, parties_stay}
use Rattle.hub_rekey.proofs.laws.rekeying_keeps_suppliers_apart.Goals as goal

pub returns-clause-seen : goal.returns-clause-seen
returns-clause-seen c = seen

pub returns-clause-unseen : goal.returns-clause-unseen
returns-clause-unseen c = λ gln other key t. unseen gln key other t

pub returns-clause-parties : goal.returns-clause-parties
returns-clause-parties c = parties_stay

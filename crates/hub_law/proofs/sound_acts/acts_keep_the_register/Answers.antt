use Rattle.hub_parties.specs.Rows.{parties_of}
use Rattle.hub_law.specs.Mark.{Whole}
use Rattle.hub_law.proofs.Acting.{register_same}
use Rattle.hub_law.proofs.Acts.{suppliers_act, taking_keeps}
use Rattle.hub_law.proofs.Retailers.{message_stays, cancelled_stays}
use Rattle.hub_law.proofs.sound_acts.acts_keep_the_register.Goals as goal

pub returns-clause-suppliers : goal.returns-clause-suppliers
returns-clause-suppliers c register s message incoming t here =
    (suppliers_act register.suppliers here.free (parties_of register) s here.known (message, incoming) t here.sound).apart.parties

pub returns-clause-retailers : goal.returns-clause-retailers
returns-clause-retailers c register message incoming t here = (message_stays register here.free (message, incoming) t here.sound).parties

pub returns-clause-cancellation : goal.returns-clause-cancellation
returns-clause-cancellation c register cancellation t here =
    (cancelled_stays register here.free Whole cancellation t here.sound).parties

pub returns-clause-taken : goal.returns-clause-taken
returns-clause-taken c = taking_keeps

pub returns-clause-register : goal.returns-clause-register
returns-clause-register c = register_same

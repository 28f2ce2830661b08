use Rattle.std.proofs.Common.{List}
use Rattle.gs1_ids.specs.Overlap.{PrefixFree}
use Rattle.hub_parties.specs.Rows.{parties_of, company_prefixes}
use Rattle.hub_parties.specs.declared.row.SupplierRow.{SupplierRow}
use Rattle.hub_tables.specs.Tables.{Tables}
use Rattle.hub_rules.specs.Laws.{PartiesRise, PartiesStay}
use Rattle.hub_rules.specs.Sound.{Sound}
use Rattle.hub_rules.proofs.Fitting.{parties_still_rise}
use Rattle.hub_rules.proofs.Rising.{all_rise, rising_from}
use Rattle.hub_law.specs.Laws.{StaySound}
use Rattle.hub_law.specs.Mark.{Whole}
use Rattle.hub_law.proofs.Acts.{suppliers_act, taking_act}
use Rattle.hub_law.proofs.Going.{join_goes}
use Rattle.hub_law.proofs.Retailers.{message_stays, cancelled_stays}
use Rattle.hub_law.proofs.sound_acts.acts_stay_sound.Goals as goal

stay : (suppliers : List SupplierRow) (t after : Tables)
    → PrefixFree (company_prefixes suppliers)
    → PartiesRise t
    → PartiesStay t after
    → Sound suppliers after
    → StaySound suppliers after
stay suppliers t after free rise parties sound = record {
  sound = sound;
  rising = rising_from after (parties_still_rise t after parties rise) (all_rise suppliers after free sound.rooted sound.kept);
}

pub returns-clause-suppliers : goal.returns-clause-suppliers
returns-clause-suppliers c register s message incoming t here rise =
    let apart = (suppliers_act register.suppliers here.free (parties_of register) s here.known (message, incoming) t here.sound).apart in
    stay register.suppliers t _ here.free rise apart.parties apart.sound

pub returns-clause-retailers : goal.returns-clause-retailers
returns-clause-retailers c register message incoming t here rise =
    let stays = message_stays register here.free (message, incoming) t here.sound in
    stay register.suppliers t _ here.free rise stays.parties stays.sound

pub returns-clause-cancellation : goal.returns-clause-cancellation
returns-clause-cancellation c register cancellation t here rise =
    let stays = cancelled_stays register here.free Whole cancellation t here.sound in
    stay register.suppliers t _ here.free rise stays.parties stays.sound

pub returns-clause-taken : goal.returns-clause-taken
returns-clause-taken c register s number entry t here rise found =
    let apart = taking_act register.suppliers here.free (parties_of register) s here.known number entry t here.sound found in
    stay register.suppliers t _ here.free rise apart.parties apart.sound

pub returns-clause-join : goal.returns-clause-join
returns-clause-join c row t here may = (join_goes t here row may).sound

use Rattle.hub_tables.specs.Tables.{view}
use Rattle.hub_rules.proofs.OwnChanges.{good_view, apart_from}
use Rattle.hub_rules.proofs.KeptBySubmissions.{leads}
use Rattle.hub_rules.proofs.laws.rules_keep_suppliers_apart.Goals as goal

pub returns : goal.returns
returns c suppliers s t submission changes here read h =
    apart_from suppliers here.free s here.known t here.sound changes
    (leads s submission read (view s.gln t) changes (good_view suppliers s t here.sound) h)

use Rattle.hub_tables.specs.Tables.{view}
use Rattle.hub_rules.proofs.Fitting.{fit_from}
use Rattle.hub_rules.proofs.OwnChanges.{good_view}
use Rattle.hub_rules.proofs.KeptBySubmissions.{leads}
use Rattle.hub_rules.proofs.laws.accepted_changes_fit.Goals as goal

pub returns : goal.returns
returns c suppliers s t submission changes here rise read h =
    fit_from suppliers s t changes here rise
    (leads s submission read (view s.gln t) changes (good_view suppliers s t here.sound) h)

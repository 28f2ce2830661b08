use Rattle.clap.specs.Words.{found_of, rows_of}
use Rattle.hub_app.specs.declared.words.HubWords.{HubWords}
use Rattle.hub_app.specs.Words.{AreHubWords}
use Rattle.hub_app.proofs.Asked.{no_hub}
use Rattle.hub_app.proofs.words.over_a_hub.Goals as goal

pub returns-in-None-clause-found : goal.returns-in-None-clause-found
returns-in-None-clause-found c =
    let none : (hub : HubWords) → AreHubWords (rows_of (found_of c.args.options.now)) hub → ⊥ = c.in-None.ensures.found in
    no_hub c.args.command.now (rows_of (found_of c.args.options.now)) none

use Rattle.std.proofs.lemmas.Result.{IfOk-weaker}
use Rattle.clap.specs.Words.{found_of, rows_of}
use Rattle.hub_app.proofs.Asked.{finds_asked}
use Rattle.hub_app.proofs.words.command_words.Goals as goal

pub returns-in_default-clause-found : goal.returns-in_default-clause-found
returns-in_default-clause-found c =
    let command = c.args.command.now in
    let rows = rows_of (found_of c.args.options.now) in
    IfOk-weaker c.over_a_hub.result _ _
    (finds_asked command rows c.in_default.not-check c.in_default.not-relay c.in_default.not-show
    c.in_default.not-init c.in_default.not-rekey c.in_default.not-verify c.in_default.not-serve)
    c.over_a_hub.ensures.found

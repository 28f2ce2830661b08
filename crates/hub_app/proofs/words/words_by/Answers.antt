use Rattle.std.proofs.Common.{◌≡◌, List, ℕ, Some, None, map, rules}
use Rattle.clap.specs.Words.{app_of, subcommand_rows_of}
use Rattle.hub_app.proofs.Asked.{met, nothing_said, only_memory, said}
use Rattle.hub_app.proofs.words.words_by.Goals as goal

pub returns-in_err-matches-clause-refused : goal.returns-in_err-matches-clause-refused
returns-in_err-matches-clause-refused g c =
    only_memory (app_of c.args.program.now) (map g.S.AsStr.text c.args.words.now) c.in_err-matches.field-0.0
    c.from_residual.result c.requires c.in_err-matches.ensures.passes
    c.from_residual.ensures.1

pub returns-in-Some-clause-read : goal.returns-in-Some-clause-read
returns-in-Some-clause-read g c =
    let texts : List (List ℕ) = map g.S.AsStr.text c.args.words.now in
    let matches = c.in_ok-matches.matches in
    let is : c.in_ok-found.found ≡ Some c.in-Some.read = search rules in
    said texts (subcommand_rows_of matches) c.in_ok-found.found c.in-Some.read
    (met (app_of c.args.program.now) texts matches c.requires c.in_ok-matches.ensures.ok.2)
    c.in_ok-found.ensures.found is

pub returns-clause-refused : goal.returns-clause-refused
returns-clause-refused g c =
    let texts : List (List ℕ) = map g.S.AsStr.text c.args.words.now in
    let matches = c.in_ok-matches.matches in
    let is : c.in_ok-found.found ≡ None = search rules in
    nothing_said texts (subcommand_rows_of matches) c.in_ok-found.found _
    (met (app_of c.args.program.now) texts matches c.requires c.in_ok-matches.ensures.ok.2)
    c.in_ok-found.ensures.found is

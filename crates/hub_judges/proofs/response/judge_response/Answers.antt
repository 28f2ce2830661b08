use Rattle.std.proofs.Common.{[], ◌∷◌, ◌++◌, sym, ap, ap₂, ◌∙◌}
use Rattle.hub_rules.specs.Judging.{joined}
use Rattle.hub_judges.specs.FromFacts.{response_from}
use Rattle.hub_judges.proofs.response.judge_response.Goals as goal

pub returns : goal.returns
returns c state told =
    let first = c.in_ok-append.ensures ∙ ap₂ (λ changes change. changes ++ change ∷ []) c.new-changes.ensures c.remember.ensures in
    c.in_ok-verdict.ensures
    ∙ ap (λ changes. joined changes (response_from c.args.response.now c.args.known.now)) first
    ∙ sym (c.in-Ok.ensures.ok c.args.incoming state told)

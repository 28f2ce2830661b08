use Rattle.std.proofs.Common.{Some, true, ap, ◌∙◌}
use Rattle.clap.specs.Words.{Rule, rule_of}
use Rattle.clap.specs.declared.builder.action.ArgAction.TheVariants.{Set}
use Rattle.clap.specs.declared.builder.arg.Arg.{Arg}
use Rattle.hub_program.proofs.program.option.Goals as goal

-- each call sets one field of the rule, or none
pub returns-clause-rule : goal.returns-clause-rule
returns-clause-rule c =
    let long = ap rule_of c.long.ensures ∙ ap (λ (r : Rule). record r { long = Some c.args.name.now }) c.new.ensures.rule in
    let valued = ap rule_of c.value_name.ensures ∙ ap (λ (r : Rule). record r { value_names = 1 }) long in
    let required = ap rule_of c.required.ensures ∙ ap (λ (r : Rule). record r { required = true }) valued in
    ap rule_of c.help.ensures ∙ ap rule_of c.action.ensures ∙ ap (λ (r : Rule). record r { action = Some Set }) required

pub returns-clause-local : goal.returns-clause-local
returns-clause-local c =
    let global = λ (a : Arg). a.global in
    ap global c.help.ensures ∙ ap global c.action.ensures ∙ ap global c.required.ensures ∙ ap global c.value_name.ensures
    ∙ ap global c.long.ensures ∙ c.new.ensures.optional.1

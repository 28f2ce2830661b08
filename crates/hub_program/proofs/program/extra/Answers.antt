use Rattle.std.proofs.Common.{false, ap, ◌∙◌}
use Rattle.clap.specs.Words.{Rule, rule_of}
use Rattle.clap.specs.declared.builder.arg.Arg.{Arg}
use Rattle.hub_program.proofs.program.extra.Goals as goal

pub returns-clause-rule : goal.returns-clause-rule
returns-clause-rule c = ap rule_of c.required.ensures ∙ ap (λ (r : Rule). record r { required = false }) c.option.ensures.rule

pub returns-clause-local : goal.returns-clause-local
returns-clause-local c = ap (λ (a : Arg). a.global) c.required.ensures ∙ c.option.ensures.local

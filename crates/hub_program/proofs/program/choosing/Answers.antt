use Rattle.std.proofs.Common.{◌≡◌, Ok, refl, rules, subst, arith}
use Rattle.std.specs.Prelude.{IfOk}
use Rattle.hub_program.specs.Program.{IsCommand}
use Rattle.hub_program.proofs.Commands.{built_all, built_more}
use Rattle.hub_program.proofs.program.choosing.Goals as goal

pub loop-choice-init : goal.loop-choice-init
loop-choice-init c =
    λ shape is.
    let same : c.args.begun ≡ Ok c.in_ok-command.command = search rules in
    record { so_far = shape; is = subst (λ begun. IfOk begun (IsCommand shape)) same is; to_come = refl }

pub loop-choice-preserved : goal.loop-choice-preserved
loop-choice-preserved c =
    λ shape is.
    built_more shape c.args.choices.now c.loop-choice.choice-index _ c.loop-choice.command c.arg_of.result c.in_ok-command-2.command
    (omega arith) c.arg_of.ensures.rule c.arg_of.ensures.local c.in_ok-command-2.ensures (c.loop-choice.invariant shape is)

pub returns : goal.returns
returns c =
    λ shape is.
    built_all shape c.args.choices.now c.loop-choice.choice-index c.loop-choice.command (omega arith) (c.loop-choice.invariant shape is)

use Rattle.std.proofs.Common.{drop}
use Rattle.std.specs.Prelude.{IfOk}
use Rattle.clap.specs.Words.{Shape}
use Rattle.hub_program.specs.Program.{IsCommand}
use Rattle.hub_program.proofs.Commands.{IsBuilt}
use Rattle.hub_program.proofs.program.choosing.Given as goal

abbrev pub invariant-loop-choice : goal.invariant-loop-choice
invariant-loop-choice l =
    (shape : Shape) → IfOk l.fn.begun (IsCommand shape) → IsBuilt shape l.choices (drop l.choice-index l.choices) l.command

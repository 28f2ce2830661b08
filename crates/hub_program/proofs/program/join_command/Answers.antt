use Rattle.hub_program.proofs.program.join_command.Goals as goal

pub returns : goal.returns
returns c = c.choosing.ensures _ c.hub_command.ensures

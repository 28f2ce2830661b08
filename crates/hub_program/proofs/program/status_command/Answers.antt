use Rattle.hub_program.proofs.program.status_command.Goals as goal

pub returns : goal.returns
returns c = c.choosing.ensures _ c.hub_command.ensures

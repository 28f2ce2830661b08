use Rattle.hub_program.proofs.program.check_command.Goals as goal

pub returns : goal.returns
returns c = c.choosing.ensures _ c.bare_command.ensures

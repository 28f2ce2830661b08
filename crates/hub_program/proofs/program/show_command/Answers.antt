use Rattle.hub_program.proofs.program.show_command.Goals as goal

pub returns : goal.returns
returns c = c.bare_command.ensures

use Rattle.hub_program.proofs.program.rekey_command.Goals as goal

pub returns : goal.returns
returns c = c.choosing.ensures _ c.bare_command.ensures

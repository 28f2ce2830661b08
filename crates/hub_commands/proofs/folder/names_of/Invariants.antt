use Rattle.hub_commands.specs.Folder.{AreTold}
use Rattle.hub_commands.proofs.folder.names_of.Given as goal

abbrev pub invariant-loop-entry : goal.invariant-loop-entry
invariant-loop-entry g l = AreTold l.names.items

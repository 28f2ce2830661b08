use Rattle.std.proofs.Common.{sym, subst}
use Rattle.hub_commands.specs.Folder.{AreTold}
use Rattle.hub_commands.proofs.Told.{told_in_order}
use Rattle.hub_commands.proofs.folder.names_of.Goals as goal

pub returns-clause-told : goal.returns-clause-told
returns-clause-told g c =
    subst AreTold (sym c.from.ensures.0) (told_in_order _ _ c.in_ok-sort.ensures.permutation c.loop-entry.invariant)

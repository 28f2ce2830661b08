use Rattle.std.proofs.Common.{◌≡◌, ◌++◌, drop}
use Rattle.hub_audit.specs.Key.{key_from}
use Rattle.hub_audit.proofs.key.key_of.Given as goal

abbrev pub invariant-parts : goal.invariant-parts
invariant-parts l = l.key ++ key_from l.at (drop l.at l.parts) l.row ≡ key_from 0 l.parts l.row

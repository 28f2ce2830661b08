use Rattle.std.proofs.Common.{Ok}
use Rattle.hub_pieces.specs.AllRows.{Tells}
use Rattle.hub_verify.proofs.Gathered.{GatheredSoFar}
use Rattle.hub_verify.proofs.goods.contents_of.Given as goal

-- what is on the pallets is what was found, and what is on the rest
abbrev pub invariant-loop-pallet : goal.invariant-loop-pallet
invariant-loop-pallet g l =
    Tells g.S.AllRows.content g.S.AllRows.honest (GatheredSoFar g.S.AllRows.content g.S.AllRows.honest l.pallets l.pallet-index
    l.found) l.fn.store l.store (Ok tt)

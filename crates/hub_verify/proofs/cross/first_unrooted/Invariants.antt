use Rattle.std.proofs.Common.{◌≡◌, not, find, drop}
use Rattle.hub_founding.specs.Fits.{fits_pallet}
use Rattle.hub_verify.proofs.cross.first_unrooted.Given as goal

-- the first of all is the first of the rest
abbrev pub invariant-loop-pallet : goal.invariant-loop-pallet
invariant-loop-pallet l =
    find (λ pallet. not (fits_pallet l.register pallet)) l.pallets
    ≡ find (λ pallet. not (fits_pallet l.register pallet)) (drop l.pallet-index l.pallets)

-- Proves what the status report is, part by part.
use Rattle.std.proofs.Common.{◌≡◌, ℕ, zero, suc, inl, inr, List, [], ◌∷◌, ◌++◌, codes, drop, refl}
use Rattle.std.specs.List.{flat_map}
use Rattle.hub_tables.specs.Sets.{Has}
use Rattle.hub_tables.specs.Tables.{Tables}
use Rattle.hub_acts.specs.HubLaw.StatusText.{line_text, pallet_text, status_text}

pub report_is : (state : Tables)
    → status_text state ≡ flat_map (line_text state) state.lines ++ flat_map (pallet_text state) state.pallets ++ codes "end\n"
unfolding status_text
report_is state = refl

-- an element after the start of a list is in the list
pub has_at : {X : Type 0} (xs : List X) (i : ℕ) (x : X) (rest : List X) → drop i xs ≡ x ∷ rest → Has xs x
has_at [] zero x rest e = cc
has_at [] (suc i) x rest e = cc
has_at (y ∷ ys) zero x rest e = let same : x ≡ y = cc in inl same
has_at (y ∷ ys) (suc i) x rest e = inr (has_at ys i x rest e)

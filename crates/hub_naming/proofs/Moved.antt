-- Proves that an order number moves from those still to be read into a set.
use Rattle.std.proofs.Common.{◌≡◌, ◌||◌, Bool, true, false, refl}

pub or_moved : (is_it before later : Bool) → ((is_it || before) || later) ≡ (before || (is_it || later))
or_moved true true later = refl
or_moved true false later = refl
or_moved false before later = refl

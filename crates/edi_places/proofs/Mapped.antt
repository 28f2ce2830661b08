-- What is asked of a line group.
use Rattle.std.proofs.Common.{◌≡◌, Option, Some, None, refl}
use Rattle.std.specs.Prelude.{is_some, option_map}

pub is_mapped : {X Y : Type 0} (f : X → Y) (one : Option X) → is_some (option_map f one) ≡ is_some one
is_mapped f None = refl
is_mapped f (Some x) = refl

-- What the limits of service data say of lengths.
use Rattle.std.proofs.Common.{◌≡◌, ℕ, ◌≤◌, List, length, true, nat_le}
use Rattle.std.proofs.lemmas.Bool.{and_parts, leb-true}
use Rattle.edi_base.specs.Limits.{has_length}

pub has_length_bounds : (low high : ℕ) (bytes : List ℕ) → has_length low high bytes ≡ true → (low ≤ length bytes) × (length bytes ≤ high)
has_length_bounds low high bytes h =
    let parts = and_parts (nat_le low (length bytes)) (nat_le (length bytes) high) h in
    (leb-true _ _ parts.0, leb-true _ _ parts.1)

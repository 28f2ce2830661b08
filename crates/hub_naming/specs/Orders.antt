-- Defines how the orders that an advice names are ordered.
use Rattle.std.specs.Prelude.{ℕ, List}
use Rattle.std.specs.Borrow.{Bor}
use Rattle.std.specs.declared.cmp.Ordering.{Ordering}
use Rattle.hub_parties.specs.KeyOrder.{bytes_cmp}

-- by the bytes of their order numbers
abbrev pub by_number : Bor (List ℕ) → Bor (List ℕ) → Ordering
by_number a b = bytes_cmp a.now b.now

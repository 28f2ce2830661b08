-- Defines that an act keeps the form of all rows, and never fails with `Unclean`.
use Rattle.std.specs.Prelude.{◌≡◌, ◌≢◌, true, None, Result, Err}
use Rattle.hub_store.specs.Clean.{are_clean}
use Rattle.hub_store.specs.declared.fault.StoreFault.{StoreFault}
use Rattle.hub_store.specs.declared.fault.StoreFault.TheVariants.{Unclean}
use Rattle.hub_store.specs.declared.store.Store.{Ghosts}

-- If all rows have the form of their kind, they do so after the call too, whatever it returns; and a store that is not
-- broken does not return `Unclean`.
pub record StaysClean {S X : Type 0} (g : Ghosts S) (old new : S) (result : Result X StoreFault) : Type 0 where
  pub never : g.honest new → g.broken old ≡ None → are_clean (g.content old) ≡ true → result ≢ Err Unclean
  pub rows : g.honest new → are_clean (g.content old) ≡ true → are_clean (g.content new) ≡ true

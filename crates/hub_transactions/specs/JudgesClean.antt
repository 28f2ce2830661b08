-- Defines that the decision on a message keeps the form of all rows.
use Rattle.std.specs.Prelude.{◌≡◌, ◌≢◌, ⊤, true, None, Result, Err, IfOk}
use Rattle.hub_tables.specs.Tables.{Tables}
use Rattle.hub_store.specs.Clean.{are_clean}
use Rattle.hub_store.specs.declared.fault.StoreFault.{StoreFault}
use Rattle.hub_store.specs.declared.fault.StoreFault.TheVariants.{Unclean}
use Rattle.hub_store.specs.declared.store.Store.{Ghosts}
use Rattle.hub_acts.specs.HubClean.Clean.{VerdictClean}
use Rattle.hub_transactions.specs.declared.judged.Judged.{Judged}
use Rattle.hub_transactions.specs.declared.judged.Judged.TheVariants.{Read, Unread}

abbrev pub JudgedClean : Judged → Tables → Type 0
JudgedClean (Read verdict) t = VerdictClean verdict t
JudgedClean (Unread fault) t = ⊤

-- If all rows have the form of their kind, deciding on a message does not fail with `Unclean` over a store that is not
-- broken, and the message's changes leave rows with their form.
pub record JudgesClean {S : Type 0} (g : Ghosts S) (old new : S) (result : Result Judged StoreFault) : Type 0 where
  pub never : g.honest new → g.broken old ≡ None → are_clean (g.content old) ≡ true → result ≢ Err Unclean
  pub leaves : g.honest new → are_clean (g.content old) ≡ true → IfOk result (λ judged. JudgedClean judged (g.content old))

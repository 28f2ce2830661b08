use Rattle.std.proofs.Common.{◌≡◌, ◌++◌, map, drop}
use Rattle.hub_tables.specs.Tables.{has_pallet}
use Rattle.hub_acts.specs.Acts.{Stays}
use Rattle.hub_transactions.proofs.despatches.units_in_use.Given as goal

abbrev pub invariant-loop-unit : goal.invariant-loop-unit
invariant-loop-unit g l = record {
  stays : Stays g.S.Store l.fn.store l.store;
  broken : g.S.Store.broken l.store ≡ g.S.Store.broken l.fn.store;
  found : g.S.Store.honest l.store →
      l.used ++ map (λ unit. has_pallet (g.S.Store.content l.fn.store) unit.sscc) (drop l.unit-index l.units)
      ≡ map (λ unit. has_pallet (g.S.Store.content l.fn.store) unit.sscc) l.units;
}

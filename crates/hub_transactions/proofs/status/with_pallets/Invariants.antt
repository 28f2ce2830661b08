use Rattle.std.proofs.Common.{◌≡◌, ◌++◌, drop}
use Rattle.std.specs.List.{flat_map}
use Rattle.hub_tables.specs.Sets.{Has}
use Rattle.hub_tables.specs.Tables.{Tables}
use Rattle.hub_tables.specs.declared.rows.PalletRow.{PalletRow}
use Rattle.hub_acts.specs.HubLaw.StatusText.{pallet_text}
use Rattle.hub_acts.specs.Acts.{Stays}
use Rattle.hub_transactions.specs.Status.{SeesPallet}
use Rattle.hub_transactions.proofs.status.with_pallets.Given as goal

abbrev pub invariant-loop-pallet : goal.invariant-loop-pallet
invariant-loop-pallet g l = record {
  stays : Stays g.S.Store l.fn.store l.store;
  broken : g.S.Store.broken l.store ≡ g.S.Store.broken l.fn.store;
  text : g.S.Store.honest l.store → (state : Tables) → state.lines ≡ l.lines
      → ((pallet : PalletRow) → Has l.pallets pallet → SeesPallet state (g.S.Store.content l.fn.store) pallet)
      → l.whole.items ++ flat_map (pallet_text state) (drop l.pallet-index l.pallets)
      ≡ l.fn.text.items ++ flat_map (pallet_text state) l.pallets;
}

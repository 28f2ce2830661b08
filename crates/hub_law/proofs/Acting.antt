-- Compares what one supplier's acts do in the tables of all with what they do in its own rows alone.
use Rattle.std.proofs.Common.{◌≡◌, List, map, refl, ◌∙◌}
use Rattle.hub_parties.specs.declared.row.SupplierRow.{SupplierRow}
use Rattle.hub_tables.specs.Register.{suppliers_of, row_in, register_of, register_by, hub_in}
use Rattle.hub_tables.specs.Tables.{Tables}
use Rattle.hub_rules.specs.Laws.{Apart, PartiesStay}
use Rattle.hub_rules.specs.Sound.{Sound}

-- the supplier is kept apart from the others, and both give the same result
pub record Alike {A : Type 0} (suppliers : List SupplierRow) (s : SupplierRow) (t : Tables) (shared own : A × Tables) : Type 0 where
  pub told : shared.0 ≡ own.0
  pub apart : Apart suppliers s t shared.1 own.1

-- the tables stay sound, with the same register
pub record ActStaysSound (suppliers : List SupplierRow) (t after : Tables) : Type 0 where
  pub sound : Sound suppliers after
  pub parties : PartiesStay t after

pub parties_same : (t : Tables) → PartiesStay t t
parties_same t = record { hubs = refl; keys = refl; prefixes = refl }

pub parties_on : (t u v : Tables) → PartiesStay t u → PartiesStay u v → PartiesStay t v
parties_on t u v one next = record {
  hubs = next.hubs ∙ one.hubs;
  keys = next.keys ∙ one.keys;
  prefixes = next.prefixes ∙ one.prefixes;
}

pub suppliers_same : (t after : Tables) → PartiesStay t after → suppliers_of after ≡ suppliers_of t
suppliers_same t after stay = λ i. map (row_in (stay.prefixes i)) (stay.keys i)

pub register_same : (t after : Tables) → PartiesStay t after → register_of after ≡ register_of t
register_same t after stay = λ i. register_by (hub_in (stay.hubs i)) (suppliers_same t after stay i)

pub stays_same : (suppliers : List SupplierRow) (t : Tables) → Sound suppliers t → ActStaysSound suppliers t t
stays_same suppliers t sound = record { sound = sound; parties = parties_same t }

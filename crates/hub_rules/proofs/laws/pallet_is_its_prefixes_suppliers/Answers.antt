use Rattle.hub_rules.proofs.Changes.{used_seen}
use Rattle.hub_rules.proofs.laws.pallet_is_its_prefixes_suppliers.Goals as goal

pub returns : goal.returns
returns c suppliers s t sscc free known rooted below = used_seen suppliers free s known t rooted sscc below

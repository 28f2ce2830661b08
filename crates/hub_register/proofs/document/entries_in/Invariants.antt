use Rattle.std.proofs.Common.{◌≡◌, map, drop}
use Rattle.toml.specs.View.{items_view}
use Rattle.hub_register.specs.Document.{suppliers_in}
use Rattle.hub_register.specs.Entries.{row_in}
use Rattle.hub_register.proofs.Readings.{after}
use Rattle.hub_register.proofs.document.entries_in.Given as goal

-- the rows of all values are those read so far and those still to come
abbrev pub invariant-loop-value : goal.invariant-loop-value
invariant-loop-value l =
    suppliers_in (items_view l.values)
    ≡ after (map row_in l.entries.items) (suppliers_in (items_view (drop l.value-index l.values)))

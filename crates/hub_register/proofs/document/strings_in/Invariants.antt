use Rattle.std.proofs.Common.{◌≡◌, drop}
use Rattle.toml.specs.View.{items_view}
use Rattle.hub_register.specs.Document.{strings_in}
use Rattle.hub_register.specs.Entries.{texts_of}
use Rattle.hub_register.proofs.Readings.{after}
use Rattle.hub_register.proofs.document.strings_in.Given as goal

-- the strings of all values are those read so far and those still to come
abbrev pub invariant-loop-value : goal.invariant-loop-value
invariant-loop-value l = strings_in (items_view l.values)
    ≡ after (texts_of l.texts.items) (strings_in (items_view (drop l.value-index l.values)))

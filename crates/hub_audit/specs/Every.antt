-- All rows of a kind, as they are read.
use Rattle.std.specs.Prelude.{◌≡◌, Bool, true, false, List, map}
use Rattle.std.specs.List.{list_all}
use Rattle.hub_audit.specs.Key.{key_from}
use Rattle.hub_audit.specs.declared.key.Part.{Part}
use Rattle.hub_tables.specs.Sets.{Has}
use Rattle.hub_pieces.specs.declared.all_rows.Read.{Read as Found}
use Rattle.hub_pieces.specs.declared.all_rows.Read.TheVariants.{Rows, Unclean}
use Rattle.sqlite_value.specs.Order.{Row}

-- each has the form of its kind; or the key is that of a row without it
abbrev pub AreRead : {X : Type 0} → (Row → X) → (X → Bool) → List Part → List Row → Found X → Type 0
AreRead shown clean parts rows (Rows found) = (found ≡ map shown rows) × (list_all clean found ≡ true)
AreRead shown clean parts rows (Unclean key) =
    (row : Row) × Has rows row × (clean (shown row) ≡ false) × (key ≡ key_from 0 parts row)

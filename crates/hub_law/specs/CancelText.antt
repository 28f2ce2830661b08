-- Defines the text of a cancellation: supplier, reference, order number, line number and quantity, each on its own
-- line.
use Rattle.std.specs.Prelude.{ℕ, List, [], ◌∷◌}
use Rattle.std.specs.Fmt.{decimal}
use Rattle.std.specs.List.{flat_map}
use Rattle.hub_rules.specs.declared.cancel.Cancel.{Cancel}
use Rattle.hub_law.specs.Widths.{line}

abbrev pub cancel_text : Cancel → List ℕ
cancel_text c =
    flat_map (λ field. line (field ∷ []))
    (c.supplier ∷ c.reference ∷ c.order ∷ decimal c.line ∷ decimal c.quantity ∷ [])

-- What a line of a despatch advice names, beside its group.
use Rattle.std.specs.Prelude.{◌≡◌, ℕ, List, Option, Some}
use Rattle.edi_messages.specs.EdiSegments.declared.segment.Segment.{Segment}
use Rattle.edi_messages.specs.References.{group_order, group_line}
use Rattle.edi_goods.specs.Despatch.{despatched}

-- order, line and quantity are those of the group
pub record IsReferredItem (group : List Segment) (order : Option (List ℕ)) (line : Option ℕ)
    (quantity : ℕ) : Type 0 where
  pub order_is : order ≡ group_order group
  pub line_is : line ≡ group_line group
  pub quantity_is : despatched group ≡ Some quantity

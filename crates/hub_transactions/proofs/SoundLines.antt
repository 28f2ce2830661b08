-- Proves that in sound tables the lines of orders can be used, and each content of a pallet names a line.
use Rattle.std.proofs.Common.{◌≡◌, true, ◌&&◌, List, [], ◌∷◌, Some, None, refl}
use Rattle.std.proofs.Common.{ap₂}
use Rattle.std.specs.Ordering.{is_lt}
use Rattle.hub_parties.specs.KeyOrder.{Rises}
use Rattle.hub_tables.specs.declared.rows.LineRow.{LineRow}
use Rattle.hub_order_lines.specs.Book.{place_cmp}
use Rattle.hub_order_lines.specs.KnownLines.{steps_up}

-- rising rows rise by line number
steps_after : (before : LineRow) (rows : List LineRow) → Rises place_cmp (before ∷ rows) → steps_up (Some before) rows ≡ true
steps_after before [] rise = refl
steps_after before (row ∷ rows) rise = ap₂ (λ o v. is_lt o && v) rise.0.0 (steps_after row rows rise.1)

pub steps_if_rise : (rows : List LineRow) → Rises place_cmp rows → steps_up None rows ≡ true
steps_if_rise [] rise = refl
steps_if_rise (row ∷ rows) rise = steps_after row rows rise

-- Shows which rows are accepted, and what is known of them.
use Rattle.std.proofs.Common.{◌≡◌, ◌+◌, ◌<◌, false, List, [], ◌∷◌, ◌++◌, arith}
use Rattle.std.specs.List.{AllByRecursion, list_all}
use Rattle.std.proofs.lemmas.Bool.{lt-leb}
use Rattle.hub_tables.specs.declared.rows.LineRow.{LineRow}
use Rattle.hub_order_lines.specs.Book.{IsCovered}
use Rattle.hub_order_lines.specs.KnownLines.{AddsUp, is_covered}
use Rattle.hub_order_lines.specs.declared.facts.LineFacts.{LineFacts}

pub uncovered : (row : LineRow) → row.ordered < row.open_qty + row.refused + row.cancelled → is_covered row ≡ false
uncovered row h = lt-leb (row.open_qty + row.refused + row.cancelled) row.ordered h

-- if one row is not covered, not all are
pub one_uncovered : (before after : List LineRow) (row : LineRow)
    → is_covered row ≡ false
    → list_all is_covered (before ++ row ∷ after) ≡ false
one_uncovered [] after row h = cc
one_uncovered (line ∷ before) after row h = let rest = one_uncovered before after row h in grind (arith, rest)

-- a line that adds up is covered
pub covered_if_adds : (facts : List LineFacts) → AllByRecursion AddsUp facts → AllByRecursion IsCovered facts
covered_if_adds [] adds = tt
covered_if_adds (line ∷ lines) adds = (omega (arith, adds.0), covered_if_adds lines adds.1)

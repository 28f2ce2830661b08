use Rattle.std.proofs.Common.{◌≡◌, ◌++◌, drop}
use Rattle.std.specs.List.{flat_map}
use Rattle.hub_tables.specs.declared.rows.LineRow.{LineRow}
use Rattle.hub_texts.specs.Lines.{text_with, rest_of}
use Rattle.hub_texts.proofs.lines.put_rows.Given as goal

abbrev pub invariant-loop-row : goal.invariant-loop-row
invariant-loop-row l =
    l.out.items ++ flat_map (λ (row : LineRow). text_with row (rest_of row)) (drop l.row-index l.rows)
    ≡ l.fn.out.items ++ flat_map (λ (row : LineRow). text_with row (rest_of row)) l.rows

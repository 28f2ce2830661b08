use Rattle.std.proofs.Common.{◌≡◌, ◌≤◌, List, [], length, drop}
use Rattle.hub_tables.specs.declared.rows.LineRow.{LineRow}
use Rattle.hub_texts.specs.Totals.{table_of}
use Rattle.hub_texts.proofs.totals.count_receipts.Given as goal

-- the receipts from this position on are counted
abbrev pub invariant-loop-left : goal.invariant-loop-left
invariant-loop-left l = record {
  within : l.left ≤ length l.receipts;
  counted : (lines : List LineRow) → l.table.entries ≡ table_of lines [] (drop l.left l.receipts);
}

abbrev pub decreases-loop-left : goal.decreases-loop-left
decreases-loop-left l = l.left

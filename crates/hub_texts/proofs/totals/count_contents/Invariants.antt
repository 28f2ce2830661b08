use Rattle.std.proofs.Common.{◌≡◌, ◌≤◌, length, drop}
use Rattle.hub_texts.specs.Totals.{table_of}
use Rattle.hub_texts.proofs.totals.count_contents.Given as goal

-- the contents from this position on are counted
abbrev pub invariant-loop-left : goal.invariant-loop-left
invariant-loop-left l = record {
  within : l.left ≤ length l.contents;
  counted : l.table.entries ≡ table_of l.lines (drop l.left l.contents) l.receipts;
}

abbrev pub decreases-loop-left : goal.decreases-loop-left
decreases-loop-left l = l.left

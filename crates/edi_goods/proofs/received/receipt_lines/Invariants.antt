use Rattle.std.proofs.Common.{◌≡◌, ◌++◌, map, drop}
use Rattle.std.specs.List.{list_all}
use Rattle.edi_goods.specs.Receipt.{line_of, is_received}
use Rattle.edi_goods.proofs.received.receipt_lines.Given as goal

-- the lines are those so far, which have quantities, and those of the rest
abbrev pub invariant-loop-item : goal.invariant-loop-item
invariant-loop-item l = record {
  lines : map line_of l.items ≡ l.lines.items ++ map line_of (drop l.item-index l.items);
  right : list_all is_received l.items ≡ list_all is_received (drop l.item-index l.items);
}

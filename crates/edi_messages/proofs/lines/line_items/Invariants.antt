use Rattle.std.proofs.Common.{◌≡◌, ◌++◌, drop}
use Rattle.std.specs.List.{list_all}
use Rattle.edi_messages.specs.Lines.{is_line}
use Rattle.edi_messages.specs.Parts.{line_groups}
use Rattle.edi_messages.proofs.lines.line_items.Given as goal

-- the groups are those so far, which are valid, and those of the rest
abbrev pub invariant-loop-index : goal.invariant-loop-index
invariant-loop-index l = record {
  groups : line_groups l.message ≡ l.items.items ++ line_groups (drop l.index l.message);
  right : list_all is_line (line_groups l.message) ≡ list_all is_line (line_groups (drop l.index l.message));
}

use Rattle.std.proofs.Common.{◌≡◌, ◌++◌, drop}
use Rattle.std.specs.List.{flat_map}
use Rattle.hub_audit.specs.Report.{cell_text}
use Rattle.hub_audit.proofs.report.put_key.Given as goal

abbrev pub invariant-loop-cell : goal.invariant-loop-cell
invariant-loop-cell l = l.out.items ++ flat_map cell_text (drop l.cell-index l.key) ≡ l.fn.out.items ++ flat_map cell_text l.key

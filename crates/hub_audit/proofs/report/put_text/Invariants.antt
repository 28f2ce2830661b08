use Rattle.std.proofs.Common.{◌≡◌, ◌++◌, drop}
use Rattle.std.specs.List.{flat_map}
use Rattle.hub_audit.specs.Report.{byte_text}
use Rattle.hub_audit.proofs.report.put_text.Given as goal

abbrev pub invariant-loop-byte : goal.invariant-loop-byte
invariant-loop-byte l = l.out.items ++ flat_map byte_text (drop l.byte-index l.bytes) ≡ l.fn.out.items ++ flat_map byte_text l.bytes

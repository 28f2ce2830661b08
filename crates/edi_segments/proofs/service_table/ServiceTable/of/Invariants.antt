use Rattle.std.proofs.Common.{◌≡◌, ◌<◌, ℕ, false, length, get_or}
use Rattle.edi_segments.specs.ServiceTable.{stands_for_itself}
use Rattle.edi_segments.proofs.service_table.ServiceTable.of.Given as goal

abbrev pub invariant-loop-byte : goal.invariant-loop-byte
invariant-loop-byte l = record {
  long : length l.stands_for_itself ≡ 256;
  so_far : (b : ℕ) → b < l.byte → get_or l.stands_for_itself b false ≡ stands_for_itself l.service b;
}

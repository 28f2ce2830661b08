use Rattle.std.proofs.Common.{IsTrue}
use Rattle.std.specs.List.{list_all}
use Rattle.sqlite.specs.Held.{state}
use Rattle.hub_store.specs.Clean.{clean_line}
use Rattle.hub_reads.proofs.OfNumbers.{LooksSoFar}
use Rattle.hub_reads.proofs.line.lines_at.Given as goal

abbrev pub invariant-loop-line : goal.invariant-loop-line
invariant-loop-line g l = record {
  looks : LooksSoFar l.supplier l.number l.line-iterator l.lines.keys (state g.S.Store l.fn.conn) (state g.S.Store l.conn) l.found;
  clean : IsTrue (list_all clean_line l.found);
}

use Rattle.std.proofs.Common.{◌≡◌}
use Rattle.edi_tokens.specs.Lender.{TakesOf}
use Rattle.edi_tokens.proofs.lender.Lender.skip_rest.Given as goal

abbrev pub invariant-loop-room : goal.invariant-loop-room
invariant-loop-room g l = record {
  bound : TakesOf (g.R.Source.remaining l.fn.reader) (g.R.Source.remaining l.reader) l.fn.self.room l.room;
  flag : g.R.Source.failed l.reader ≡ g.R.Source.failed l.fn.reader;
}

abbrev pub decreases-loop-room : goal.decreases-loop-room
decreases-loop-room g l = l.room

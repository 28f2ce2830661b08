use Rattle.std.proofs.Common.{◌≡◌}
use Rattle.edi_tokens.specs.Lender.{unread}
use Rattle.edi_tokens.specs.Stops.{StaysStopped}
use Rattle.edi_envelope.specs.Gathered.{HasRead}
use Rattle.edi_envelope.proofs.opening.read.Given as goal

abbrev pub invariant-loop-opening : goal.invariant-loop-opening
invariant-loop-opening g l = record {
  read : HasRead (g.R.Source.remaining l.fn.reader) (g.R.Source.remaining l.reader) (g.R.Source.failed l.fn.reader)
      (g.R.Source.failed l.reader) l.fn.lender l.opening l.lender;
  origin : g.R.Source.origin l.reader ≡ g.R.Source.origin l.fn.reader;
  stays : StaysStopped l.fn.reader l.fn.lender l.reader l.lender;
}

abbrev pub decreases-loop-opening : goal.decreases-loop-opening
decreases-loop-opening g l = unread l.lender

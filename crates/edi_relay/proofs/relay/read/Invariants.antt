use Rattle.edi_tokens.specs.Lender.{unread}
use Rattle.edi_tokens.specs.Stops.{StaysStopped}
use Rattle.edi_relay.specs.Relaying.{HasRelayed}
use Rattle.edi_relay.proofs.relay.read.Given as goal

abbrev pub invariant-loop-relaying : goal.invariant-loop-relaying
invariant-loop-relaying g l = record {
  read : HasRelayed l.words (g.R.Source.remaining l.fn.reader) (g.R.Source.remaining l.reader) (g.R.Source.failed l.fn.reader)
      (g.R.Source.failed l.reader) l.fn.lender l.relaying l.lender;
  stays : StaysStopped l.fn.reader l.fn.lender l.reader l.lender;
}

abbrev pub decreases-loop-relaying : goal.decreases-loop-relaying
decreases-loop-relaying g l = unread l.lender

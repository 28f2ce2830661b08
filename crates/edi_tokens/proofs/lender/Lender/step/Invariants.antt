use Rattle.std.proofs.Common.{◌≡◌, ◌≤◌, ℕ, List, None}
use Rattle.edi_segments.specs.declared.segment.Segment.{Segment}
use Rattle.edi_tokens.specs.Lender.{AtEnd, Came, Fed, TakesOf, stopped, unread}
use Rattle.edi_tokens.proofs.lender.Lender.step.Given as goal

abbrev pub invariant-loop-self : goal.invariant-loop-self
invariant-loop-self g l = record {
  told : (all : List ℕ) (lent : List Segment) → Fed (g.R.Source.remaining l.fn.reader) all lent l.fn.self
      → Fed (g.R.Source.remaining l.reader) all lent l.self;
  some : (lent : List Segment) → Came lent l.fn.self → Came lent l.self;
  origin : g.R.Source.origin l.reader ≡ g.R.Source.origin l.fn.reader;
  flag : g.R.Source.failed l.reader ≡ g.R.Source.failed l.fn.reader;
  bound : TakesOf (g.R.Source.remaining l.fn.reader) (g.R.Source.remaining l.reader) l.fn.self.room l.self.room;
  ends : AtEnd (g.R.Source.remaining l.fn.reader) l.fn.self → AtEnd (g.R.Source.remaining l.reader) l.self;
  unread : unread l.self ≤ unread l.fn.self;
  going : stopped l.self ≡ None;
}

abbrev pub decreases-loop-self : goal.decreases-loop-self
decreases-loop-self g l = l.self.room

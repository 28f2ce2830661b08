-- A reader and the lender of its segments.
use Rattle.std.specs.Prelude.{◌≡◌, ℕ, Bool, List, Option, Result, IfSome}
use Rattle.edi_tokens.specs.declared.feeder.Feeder.{Feeder}
use Rattle.edi_segments.specs.declared.segment.Segment.{Segment}
use Rattle.edi_segments.specs.declared.fault.TokenFault.{TokenFault}
use Rattle.edi_tokens.specs.Lender.{Feeds, stopped}

-- what a call returns; after a fault it returns the same fault again, and reads nothing
pub record FeedsOn {R : Type 0} (remaining : R → Option (List ℕ)) (failed : R → Bool) (old : Feeder R)
    (result : Result (Option Segment) TokenFault) (new : Feeder R) : Type 0 where
  pub feeds : Feeds (remaining old.reader) (remaining new.reader) (failed old.reader) (failed new.reader) old.lender result
      new.lender
  pub still : IfSome (stopped old.lender) (λ _. new.reader ≡ old.reader)

-- What a call that reads a text on leaves of its lender and its reader.
use Rattle.std.specs.Prelude.{◌≡◌, ℕ, List, [], Option, None, IfSome}
use Rattle.edi_segments.specs.declared.segment.Segment.{Segment}
use Rattle.edi_segments.specs.declared.fault.TokenFault.{TokenFault}
use Rattle.edi_tokens.specs.declared.lender.Lender.{Lender}
use Rattle.edi_tokens.specs.Lender.{Fed, stopped}

-- a lender that had stopped stays as it was, and nothing was read
abbrev pub StaysStopped : {R : Type 0} → R → Lender → R → Lender → Type 0
StaysStopped before old after new = IfSome (stopped old) (λ _. (new ≡ old) × (after ≡ before))

-- the lender has stopped after this fault, or else is among the segments of the same text
pub record Stops {R : Type 0} (remaining : R → Option (List ℕ)) (told : Option TokenFault) (before : R) (old : Lender)
    (after : R) (new : Lender) : Type 0 where
  pub told_is : stopped new ≡ told
  pub stays : StaysStopped before old after new
  pub stands : stopped new ≡ None → (all : List ℕ) → Fed (remaining before) all [] old
      → (lent : List Segment) × Fed (remaining after) all lent new

use Rattle.std.proofs.Common.{Bool, true, false, Result, Ok, refl, ap, ◌∙◌}
use Rattle.std.proofs.lemmas.Result.{err_from_is_err_and}
use Rattle.edi_segments.specs.declared.fault.TokenFault.{TokenFault}
use Rattle.edi_envelope.proofs.ReadLemmas.{nothing_read, more_read, end_told, end_of_some, fault_told, fault_of_some}
use Rattle.edi_envelope.proofs.ReadLemmas.{bound_then, ends_then, fault_flagged, still_flagged}
use Rattle.edi_tokens.proofs.Stopping.{stays_still, stays_then, stops_by_fault, stops_not}
use Rattle.edi_envelope.proofs.opening.read.Goals as goal

abbrev said : Bool → Result Bool TokenFault
said b = Ok b

pub returns-in_err-advance-clause-told : goal.returns-in_err-advance-clause-told
returns-in_err-advance-clause-told g c =
    let p = err_from_is_err_and c.from_residual.result c.from_residual.ensures.1 in
    rw (p.1, p.2)
    (fault_told (g.R.Source.remaining c.args.reader.now) (g.R.Source.failed c.args.reader.now) c.args.lender.now _ _ _ _
    c.loop-opening.lender _ c.loop-opening.opening c.advance.result c.loop-opening.invariant.read
    c.advance.ensures.feeds _ c.in_err-advance.was)

pub returns-in_err-advance-clause-bound : goal.returns-in_err-advance-clause-bound
returns-in_err-advance-clause-bound g c =
    bound_then (g.R.Source.remaining c.args.reader.now) (g.R.Source.failed c.args.reader.now) c.args.lender.now _ _ _ _
    c.loop-opening.lender _ c.loop-opening.opening c.advance.result c.loop-opening.invariant.read c.advance.ensures.feeds

pub returns-in_err-copy-clause-bound : goal.returns-in_err-copy-clause-bound
returns-in_err-copy-clause-bound g c =
    bound_then (g.R.Source.remaining c.args.reader.now) (g.R.Source.failed c.args.reader.now) c.args.lender.now _ _ _ _
    c.loop-opening.lender _ c.loop-opening.opening c.advance.result c.loop-opening.invariant.read c.advance.ensures.feeds

pub returns-clause-told : goal.returns-clause-told
returns-clause-told g c =
    end_told (g.R.Source.remaining c.args.reader.now) (g.R.Source.failed c.args.reader.now) c.args.lender.now _ _ _ _
    c.loop-opening.lender _ c.loop-opening.opening c.advance.result c.loop-opening.invariant.read c.advance.ensures.feeds
    (c.in_ok-advance.was ∙ ap said c.if-branch.false)

pub returns-clause-bound : goal.returns-clause-bound
returns-clause-bound g c =
    bound_then (g.R.Source.remaining c.args.reader.now) (g.R.Source.failed c.args.reader.now) c.args.lender.now _ _ _ _
    c.loop-opening.lender _ c.loop-opening.opening c.advance.result c.loop-opening.invariant.read c.advance.ensures.feeds

pub loop-opening-preserved : goal.loop-opening-preserved
loop-opening-preserved g c = record {
  read =
      more_read (g.R.Source.remaining c.args.reader.now) (g.R.Source.failed c.args.reader.now) c.args.lender.now _ _ _ _
      c.loop-opening.lender _ c.loop-opening.opening c.advance.result c.loop-opening.invariant.read c.advance.ensures.feeds _
      (c.in_ok-advance.was ∙ ap said c.if-branch.true)
      (rw c.lent_segment.ensures at (c.in_ok-copy.ensures c.loop-opening.invariant.read.lent c.loop-opening.invariant.read.stands));
  origin = c.advance.ensures.origin ∙ c.loop-opening.invariant.origin;
  stays =
      stays_then g.R.Source.remaining c.args.reader.now _ _ _ _ c.args.lender.now _ _ c.advance.result c.advance.ensures.feeds
      c.advance.ensures.still c.loop-opening.invariant.stays;
}

pub returns-in_err-advance-clause-some : goal.returns-in_err-advance-clause-some
returns-in_err-advance-clause-some g c =
    let p = err_from_is_err_and c.from_residual.result c.from_residual.ensures.1 in
    rw (p.1, p.2)
    (fault_of_some (g.R.Source.remaining c.args.reader.now) (g.R.Source.failed c.args.reader.now) c.args.lender.now _ _ _ _
    c.loop-opening.lender _ c.loop-opening.opening c.advance.result c.loop-opening.invariant.read
    c.advance.ensures.feeds _ c.in_err-advance.was)

pub returns-clause-some : goal.returns-clause-some
returns-clause-some g c =
    end_of_some (g.R.Source.remaining c.args.reader.now) (g.R.Source.failed c.args.reader.now) c.args.lender.now _ _ _ _
    c.loop-opening.lender _ c.loop-opening.opening c.advance.result c.loop-opening.invariant.read c.advance.ensures.feeds
    (c.in_ok-advance.was ∙ ap said c.if-branch.false)

pub returns-in_err-advance-clause-stops : goal.returns-in_err-advance-clause-stops
returns-in_err-advance-clause-stops g c =
    let p = err_from_is_err_and c.from_residual.result c.from_residual.ensures.1 in
    rw (p.1, p.2)
    (stops_by_fault g.R.Source.remaining c.args.reader.now _ _ _ _ c.args.lender.now c.loop-opening.lender _ c.advance.result
    c.advance.ensures.feeds c.advance.ensures.still c.loop-opening.invariant.stays _ c.in_err-advance.was)

pub returns-in_err-copy-clause-stops : goal.returns-in_err-copy-clause-stops
returns-in_err-copy-clause-stops g c =
    let p = err_from_is_err_and c.from_residual-in_err-copy.result c.from_residual-in_err-copy.ensures.1 in
    rw (p.1, p.2)
    (stops_not g.R.Source.remaining c.args.reader.now _ _ _ _ c.args.lender.now c.loop-opening.lender _ c.advance.result
    c.advance.ensures.feeds c.advance.ensures.still c.loop-opening.invariant.stays c.loop-opening.invariant.read.lent
    c.loop-opening.invariant.read.fed _ c.in_ok-advance.was)

pub returns-clause-stops : goal.returns-clause-stops
returns-clause-stops g c =
    stops_not g.R.Source.remaining c.args.reader.now _ _ _ _ c.args.lender.now c.loop-opening.lender _ c.advance.result
    c.advance.ensures.feeds c.advance.ensures.still c.loop-opening.invariant.stays c.loop-opening.invariant.read.lent
    c.loop-opening.invariant.read.fed _ c.in_ok-advance.was

pub loop-opening-init : goal.loop-opening-init
loop-opening-init g c = record {
  read =
      nothing_read (g.R.Source.remaining c.args.reader.now) (g.R.Source.failed c.args.reader.now) c.args.lender.now c.new-opening.result
      c.new-opening.ensures;
  origin = refl;
  stays = stays_still c.args.reader.now c.args.lender.now;
}

pub returns-in_err-advance-clause-ends : goal.returns-in_err-advance-clause-ends
returns-in_err-advance-clause-ends g c =
    ends_then (g.R.Source.remaining c.args.reader.now) (g.R.Source.failed c.args.reader.now) c.args.lender.now _ _ _ _
    c.loop-opening.lender _ c.loop-opening.opening c.advance.result c.loop-opening.invariant.read c.advance.ensures.feeds

pub returns-in_err-copy-clause-ends : goal.returns-in_err-copy-clause-ends
returns-in_err-copy-clause-ends g c =
    ends_then (g.R.Source.remaining c.args.reader.now) (g.R.Source.failed c.args.reader.now) c.args.lender.now _ _ _ _
    c.loop-opening.lender _ c.loop-opening.opening c.advance.result c.loop-opening.invariant.read c.advance.ensures.feeds

pub returns-clause-ends : goal.returns-clause-ends
returns-clause-ends g c =
    ends_then (g.R.Source.remaining c.args.reader.now) (g.R.Source.failed c.args.reader.now) c.args.lender.now _ _ _ _
    c.loop-opening.lender _ c.loop-opening.opening c.advance.result c.loop-opening.invariant.read c.advance.ensures.feeds

pub returns-in_err-advance-clause-flag : goal.returns-in_err-advance-clause-flag
returns-in_err-advance-clause-flag g c = λ begun.
    let p = err_from_is_err_and c.from_residual.result c.from_residual.ensures.1 in
    rw (p.1, p.2)
    (fault_flagged (g.R.Source.remaining c.args.reader.now) (g.R.Source.failed c.args.reader.now) c.args.lender.now _ _ _ _
    c.loop-opening.lender _ c.loop-opening.opening c.advance.result c.loop-opening.invariant.read c.advance.ensures.feeds _
    c.in_err-advance.was begun)

pub returns-in_err-copy-clause-flag : goal.returns-in_err-copy-clause-flag
returns-in_err-copy-clause-flag g c = λ begun.
    let p = err_from_is_err_and c.from_residual-in_err-copy.result c.from_residual-in_err-copy.ensures.1 in
    rw (p.1, p.2)
    (still_flagged (g.R.Source.remaining c.args.reader.now) (g.R.Source.failed c.args.reader.now) c.args.lender.now _ _ _ _
    c.loop-opening.lender _ c.loop-opening.opening c.advance.result c.loop-opening.invariant.read c.advance.ensures.feeds true
    (c.in_ok-advance.was ∙ ap said c.if-branch.true) begun)

pub returns-clause-flag : goal.returns-clause-flag
returns-clause-flag g c = λ begun.
    still_flagged (g.R.Source.remaining c.args.reader.now) (g.R.Source.failed c.args.reader.now) c.args.lender.now _ _ _ _
    c.loop-opening.lender _ c.loop-opening.opening c.advance.result c.loop-opening.invariant.read c.advance.ensures.feeds false
    (c.in_ok-advance.was ∙ ap said c.if-branch.false) begun

use Rattle.std.proofs.Common.{Bool, Result, Ok, ap, ◌∙◌}
use Rattle.std.proofs.lemmas.Result.{err_from_is_err_and}
use Rattle.edi_segments.specs.declared.fault.TokenFault.{TokenFault}
use Rattle.edi_relay.specs.declared.relaying.Relaying.{Relaying}
use Rattle.edi_relay.proofs.ReadOn.{nothing_read, fault_stops, bound_then, fault_told, end_told, more_read}
use Rattle.edi_tokens.proofs.Stopping.{stays_still, stays_then, stops_still, stops_as_before, stops_not}
use Rattle.edi_relay.proofs.relay.read.Goals as goal

abbrev said : Bool → Result Bool TokenFault
said b = Ok b

pub loop-relaying-init : goal.loop-relaying-init
loop-relaying-init g c = record {
  read =
      nothing_read c.args.words.now (g.R.Source.remaining c.args.reader.now) (g.R.Source.failed c.args.reader.now) c.args.lender.now
      c.in_ok-relaying.relaying c.in_ok-relaying.ensures;
  stays = stays_still c.args.reader.now c.args.lender.now;
}

pub returns-in_err-advance-clause-told : goal.returns-in_err-advance-clause-told
returns-in_err-advance-clause-told g c =
    let p = err_from_is_err_and c.from_residual-in_err-advance.result c.from_residual-in_err-advance.ensures.1 in
    rw (p.1, p.2)
    (fault_told c.args.words.now (g.R.Source.remaining c.args.reader.now) (g.R.Source.failed c.args.reader.now) c.args.lender.now _ _ _ _
    c.loop-relaying.lender _ c.loop-relaying.relaying c.advance.result c.loop-relaying.invariant.read
    c.advance.ensures.feeds _ c.in_err-advance.was)

pub returns-in_err-advance-clause-bound : goal.returns-in_err-advance-clause-bound
returns-in_err-advance-clause-bound g c =
    bound_then c.args.words.now (g.R.Source.remaining c.args.reader.now) (g.R.Source.failed c.args.reader.now) c.args.lender.now _ _ _ _
    c.loop-relaying.lender _ c.loop-relaying.relaying c.advance.result c.loop-relaying.invariant.read c.advance.ensures.feeds

pub returns-in_err-take-clause-bound : goal.returns-in_err-take-clause-bound
returns-in_err-take-clause-bound g c =
    bound_then c.args.words.now (g.R.Source.remaining c.args.reader.now) (g.R.Source.failed c.args.reader.now) c.args.lender.now _ _ _ _
    c.loop-relaying.lender _ c.loop-relaying.relaying c.advance.result c.loop-relaying.invariant.read c.advance.ensures.feeds

pub returns-clause-told : goal.returns-clause-told
returns-clause-told g c =
    end_told c.args.words.now (g.R.Source.remaining c.args.reader.now) (g.R.Source.failed c.args.reader.now) c.args.lender.now _ _ _ _
    c.loop-relaying.lender _ c.loop-relaying.relaying c.advance.result c.loop-relaying.invariant.read c.advance.ensures.feeds
    (c.in_ok-advance.was ∙ ap said c.if-branch.false)

pub returns-clause-bound : goal.returns-clause-bound
returns-clause-bound g c =
    bound_then c.args.words.now (g.R.Source.remaining c.args.reader.now) (g.R.Source.failed c.args.reader.now) c.args.lender.now _ _ _ _
    c.loop-relaying.lender _ c.loop-relaying.relaying c.advance.result c.loop-relaying.invariant.read c.advance.ensures.feeds

pub loop-relaying-preserved : goal.loop-relaying-preserved
loop-relaying-preserved g c = record {
  read =
      more_read c.args.words.now (g.R.Source.remaining c.args.reader.now) (g.R.Source.failed c.args.reader.now) c.args.lender.now _ _ _ _
      c.loop-relaying.lender _ c.loop-relaying.relaying c.advance.result c.loop-relaying.invariant.read c.advance.ensures.feeds _
      (c.in_ok-advance.was ∙ ap said c.if-branch.true)
      (rw (c.lent_segment.ensures, c.decimal.ensures) at (c.in_ok-take.ensures c.args.words.now));
  stays =
      stays_then g.R.Source.remaining c.args.reader.now _ _ _ _ c.args.lender.now _ _ c.advance.result c.advance.ensures.feeds
      c.advance.ensures.still c.loop-relaying.invariant.stays;
}

pub returns-in_err-relaying-clause-stops : goal.returns-in_err-relaying-clause-stops
returns-in_err-relaying-clause-stops g c =
    let p = err_from_is_err_and c.from_residual.result c.from_residual.ensures.1 in
    rw (p.1, p.2) (stops_still g.R.Source.remaining c.args.reader.now c.args.lender.now)

pub returns-in_err-advance-clause-stops : goal.returns-in_err-advance-clause-stops
returns-in_err-advance-clause-stops g c =
    let p = err_from_is_err_and c.from_residual-in_err-advance.result c.from_residual-in_err-advance.ensures.1 in
    rw (p.1, p.2)
    (fault_stops g.R.Source.remaining c.args.reader.now _ _ _ _ c.args.lender.now c.loop-relaying.lender _ c.advance.result
    c.advance.ensures.feeds c.advance.ensures.still c.loop-relaying.invariant.stays c.loop-relaying.invariant.read.going Relaying _
    c.in_err-advance.was)

pub returns-in_err-take-clause-stops : goal.returns-in_err-take-clause-stops
returns-in_err-take-clause-stops g c =
    let p = err_from_is_err_and c.from_residual-in_err-take.result c.from_residual-in_err-take.ensures.1 in
    rw (p.1, p.2)
    (stops_as_before g.R.Source.remaining c.args.reader.now _ _ _ _ c.args.lender.now c.loop-relaying.lender _ c.advance.result
    c.advance.ensures.feeds c.advance.ensures.still c.loop-relaying.invariant.stays c.loop-relaying.invariant.read.lent
    c.loop-relaying.invariant.read.fed _ c.in_ok-advance.was)

pub returns-clause-stops : goal.returns-clause-stops
returns-clause-stops g c =
    stops_not g.R.Source.remaining c.args.reader.now _ _ _ _ c.args.lender.now c.loop-relaying.lender _ c.advance.result
    c.advance.ensures.feeds c.advance.ensures.still c.loop-relaying.invariant.stays c.loop-relaying.invariant.read.lent
    c.loop-relaying.invariant.read.fed _ c.in_ok-advance.was

use Rattle.std.proofs.Common.{◌≡◌, ◌-◌, ◌∙◌, subst, inl, inr, arith}
use Rattle.std.proofs.lemmas.Result.{err_from_is_err_and}
use Rattle.edi_tokens.specs.Lender.{TakesOf, room_of}
use Rattle.edi_tokens.proofs.Lending.{takes_none, takes_then}
use Rattle.edi_tokens.proofs.lender.Lender.skip_rest.Goals as goal

pub loop-room-preserved : goal.loop-room-preserved
loop-room-preserved g c = record {
  bound = takes_then _ _ _ _ _ _ c.loop-room.invariant.bound c.in_ok-count.ensures.taken;
  flag = c.in_ok-count.ensures.kept ∙ c.loop-room.invariant.flag;
}

pub returns-then-ended-clause-away : goal.returns-then-ended-clause-away
returns-then-ended-clause-away g c =
    (takes_none (g.R.Source.remaining c.args.reader.now) c.args.self.room, λ at_end. at_end c.if-ended.true)

pub returns-in_err-count-clause-away : goal.returns-in_err-count-clause-away
returns-in_err-count-clause-away g c =
    let p = err_from_is_err_and c.from_residual.result c.from_residual.ensures.1 in
    rw p.1 (c.loop-room.room, takes_then _ _ _ _ _ _ c.loop-room.invariant.bound c.in_err-count.ensures.none)

pub returns-then-count-eq0-clause-away : goal.returns-then-count-eq0-clause-away
returns-then-count-eq0-clause-away g c =
    let same : c.loop-room.room - c.in_ok-count.count ≡ c.loop-room.room = omega (arith, c.if-count-eq0.true) in (
      subst (λ left. TakesOf (g.R.Source.remaining c.args.reader.now) (g.R.Source.remaining c.skip_piece.new.reader)
          (room_of c.args.self) left) same (takes_then _ _ _ _ _ _ c.loop-room.invariant.bound c.in_ok-count.ensures.taken),
      λ at_end. inl (c.in_ok-count.ensures.ends c.if-count-eq0.true c.loop-room-test.true),
    )

pub returns-clause-away : goal.returns-clause-away
returns-clause-away g c = (c.loop-room.invariant.bound, λ at_end. inr (omega arith))

use Rattle.std.proofs.Common.{◌≡◌, ◌+◌, [], get_or, take, drop, arith}
use Rattle.std.proofs.lemmas.Result.{err_from_is_err_and}
use Rattle.edi_segments.specs.Machine.{reading_of}
use Rattle.edi_segments.proofs.Pieces.{one_more, some_more, split_at, stops_here, length-take_drop}
use Rattle.edi_segments.proofs.machine.Machine.push_all.Goals as goal

pub returns-in_err-ended-clause-err : goal.returns-in_err-ended-clause-err
returns-in_err-ended-clause-err c =
    let p = err_from_is_err_and c.from_residual.result c.from_residual.ensures.1 in
    rw (p.1, p.2)
    (stops_here (reading_of [] c.args.self.now) (reading_of [] c.loop-at.self) c.args.bytes.now c.loop-at.at c.in_err-ended.field-0.0
    c.loop-at-test.true c.loop-at.invariant.so_far c.in_err-ended.ensures.gives)

pub returns-then-ended-clause-ok : goal.returns-then-ended-clause-ok
returns-then-ended-clause-ok c =
    one_more (reading_of [] c.args.self.now) (reading_of [] c.loop-at.self) _ c.args.bytes.now c.loop-at.at
    c.loop-at-test.true c.loop-at.invariant.so_far (rw c.if-ended.true at c.in_ok-ended.ensures.gives)

pub loop-at-preserved : goal.loop-at-preserved
loop-at-preserved c =
    let one = one_more (reading_of [] c.args.self.now) (reading_of [] c.loop-at.self) (reading_of [] c.push.new.self) c.args.bytes.now
    c.loop-at.at c.loop-at-test.true c.loop-at.invariant.so_far (rw c.if-ended.false at c.in_ok-ended.ensures.gives) in
    record {
      within =
          omega (arith, c.push_run-at-in-loop-at.ensures.within, c.loop-at-test.true, length-take_drop (c.loop-at.at + 1) c.args.bytes.now);
      so_far =
          some_more (reading_of [] c.args.self.now) (reading_of [] c.push.new.self)
          (reading_of [] c.push_run-at-in-loop-at.new.self) c.args.bytes.now
          (c.loop-at.at + 1) c.push_run-at-in-loop-at.result one c.push_run-at-in-loop-at.ensures.taken;
    }

pub returns-in_err-ended-clause-stops : goal.returns-in_err-ended-clause-stops
returns-in_err-ended-clause-stops c =
    let p = err_from_is_err_and c.from_residual.result c.from_residual.ensures.1 in
    let same : c.push.new.self ≡ c.loop-at.self = c.in_err-ended.ensures.kept in
    rw (p.1, p.2, same) (record {
      front = take c.loop-at.at c.args.bytes.now;
      byte = get_or c.args.bytes.now c.loop-at.at 0;
      rest = drop (c.loop-at.at + 1) c.args.bytes.now;
      bytes_are = split_at c.args.bytes.now c.loop-at.at c.loop-at-test.true;
      taken = c.loop-at.invariant.so_far;
      shows = c.in_err-ended.ensures.gives;
    })

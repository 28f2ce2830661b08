use Rattle.std.proofs.Common.{◌∙◌, inl, inr}
use Rattle.std.proofs.KnownBytes.{Keeps-refl}
use Rattle.hub_commands.proofs.Showing.{stands, read_or_told, failed_unwritten, is_shown, is_front_shown}
use Rattle.hub_commands.proofs.show.show_run.Goals as goal

pub returns-in-Ok-write_bytes-clause-stands : goal.returns-in-Ok-write_bytes-clause-stands
returns-in-Ok-write_bytes-clause-stands g c =
    λ _. stands (g.R.Source.remaining c.args.input.now) _ c.in-Ok.text.items c.in-Ok.ensures.bytes c.in-Ok.ensures.whole

pub returns-in-Ok-write_bytes-clause-shown : goal.returns-in-Ok-write_bytes-clause-shown
returns-in-Ok-write_bytes-clause-shown g c = λ _. (
  is_shown (g.R.Source.remaining c.args.input.now) c.in-Ok-report_of.report.status (g.W.Sink.contents c.args.out.now)
      (g.W.Sink.contents c.write_bytes.new.out)
      c.in-Ok.text.items c.as_slice.result.now c.as_slice-lines.result.now c.in-Ok.ensures.whole c.as_slice.ensures.value
      c.in-Ok-report_of.ensures.status
      (c.as_slice-lines.ensures.value ∙ c.in-Ok-report_of.ensures.lines) c.in-Ok-write_bytes.ensures.ok,
  Keeps-refl (g.E.Sink.contents c.args.err.now),
)

pub returns-clause-failed : goal.returns-clause-failed
returns-clause-failed g c = λ _. inl (
  c.tell-in-Err-write_bytes.ensures,
  inr (
    c.in-Err-write_bytes.ensures.failed,
    is_front_shown (g.R.Source.remaining c.args.input.now) (g.W.Sink.contents c.args.out.now) (g.W.Sink.contents c.write_bytes.new.out)
        c.in-Ok.text.items c.as_slice.result.now c.as_slice-lines.result.now c.in-Ok.ensures.whole c.as_slice.ensures.value
        (c.as_slice-lines.ensures.value ∙ c.in-Ok-report_of.ensures.lines) c.in-Err-write_bytes.ensures.err,
  ),
)

pub returns-in-Err-clause-read : goal.returns-in-Err-clause-read
returns-in-Err-clause-read g c =
    read_or_told c.in-Err.fault c.tell_read_fault.ensures.file c.tell_read_fault.ensures.memory c.in-Err.ensures.read
    c.in-Err.ensures.kept c.tell_read_fault.ensures.status

pub returns-in-Err-clause-failed : goal.returns-in-Err-clause-failed
returns-in-Err-clause-failed g c = λ _.
    failed_unwritten c.in-Err.fault c.tell_read_fault.ensures.file c.tell_read_fault.ensures.memory c.in-Err.ensures.read
    c.in-Err.ensures.kept (Keeps-refl (g.W.Sink.contents c.args.out.now))

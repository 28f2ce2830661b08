use Rattle.std.proofs.Common.{◌+◌, drop, ◌∙◌}
use Rattle.std.specs.List.{flat_map}
use Rattle.edi_tokens.specs.Text.{segment_text}
use Rattle.edi_base.proofs.Going.{goes_put, goes_cut, goes_as, puts_cut}
use Rattle.edi_tokens.proofs.Canonical.{flat_map-drop}
use Rattle.edi_tokens.proofs.text.put_text.Goals as goal

pub returns-in_err-put_segment-clause-bytes : goal.returns-in_err-put_segment-clause-bytes
returns-in_err-put_segment-clause-bytes g c =
    let next = flat_map-drop segment_text c.args.segments.now c.loop-segment.segment-index c.segment-item.result
    c.loop-segment-test.true c.segment-item.is in
    puts_cut c.from_residual.result c.put_segment.new.buffer c.from_residual.ensures.0
    (goes_cut (flat_map segment_text (drop (c.loop-segment.segment-index + 1) c.args.segments.now))
    (goes_as _ _ next c.loop-segment.invariant.bytes) c.in_err-put_segment.ensures.bytes)

pub loop-segment-preserved : goal.loop-segment-preserved
loop-segment-preserved g c =
    let next = flat_map-drop segment_text c.args.segments.now c.loop-segment.segment-index c.segment-item.result
    c.loop-segment-test.true c.segment-item.is in
    record {
      bytes = goes_put (goes_as _ _ next c.loop-segment.invariant.bytes) c.in_ok-put_segment.ensures.bytes;
      flag = c.in_ok-put_segment.ensures.flag ∙ c.loop-segment.invariant.flag;
    }

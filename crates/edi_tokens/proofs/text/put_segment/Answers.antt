use Rattle.std.proofs.Common.{◌+◌, [], ◌∷◌, ◌++◌, drop, ap, ◌∙◌}
use Rattle.std.specs.List.{flat_map}
use Rattle.edi_tokens.specs.Text.{element_text, segment_text}
use Rattle.edi_tokens.proofs.Canonical.{flat_map-drop_all, segment_text-parts, segment_text-next}
use Rattle.edi_base.proofs.Going.{goes_none, goes_put, goes_cut, goes_as, puts_cut, puts_last}
use Rattle.edi_tokens.proofs.text.put_segment.Goals as goal

pub returns-in_err-put-clause-bytes : goal.returns-in_err-put-clause-bytes
returns-in_err-put-clause-bytes g c =
    let s = c.args.segment.now in
    puts_cut c.from_residual.result c.put.new.self c.from_residual.ensures.0
    (goes_cut (flat_map element_text s.elements ++ 39 ∷ [])
    (goes_as _ _ (segment_text-parts s) (goes_none (g.W.Sink.contents c.args.out.now) c.args.buffer.now (segment_text s)))
    c.in_err-put.ensures.bytes)

pub returns-in_err-put_element-clause-bytes : goal.returns-in_err-put_element-clause-bytes
returns-in_err-put_element-clause-bytes g c =
    let next = segment_text-next c.as_slice-components-items.result.now c.loop-components.components-index
    c.components-item.result c.loop-components-test.true c.components-item.is in
    puts_cut c.from_residual-in_err-put_element.result c.put_element.new.buffer c.from_residual-in_err-put_element.ensures.0
    (goes_cut (flat_map element_text (drop (c.loop-components.components-index + 1) c.as_slice-components-items.result.now)
    ++ 39 ∷ []) (goes_as _ _ next c.loop-components.invariant.bytes)
    (rw c.as_slice.ensures at c.in_err-put_element.ensures.bytes))

pub loop-components-preserved : goal.loop-components-preserved
loop-components-preserved g c =
    let next = segment_text-next c.as_slice-components-items.result.now c.loop-components.components-index
    c.components-item.result c.loop-components-test.true c.components-item.is in
    record {
      bytes = goes_put (goes_as _ _ next c.loop-components.invariant.bytes) (rw c.as_slice.ensures at c.in_ok-put_element.ensures.bytes);
      flag = c.in_ok-put_element.ensures.flag ∙ c.loop-components.invariant.flag;
    }

pub returns-clause-bytes : goal.returns-clause-bytes
returns-clause-bytes g c =
    let none = flat_map-drop_all element_text c.as_slice-components-items.result.now c.loop-components.components-index
    c.loop-components-test.false in
    puts_last c.put-2.result (g.W.Sink.contents c.put-2.new.out) c.put-2.new.self
    (goes_as _ _ (ap (λ l. l ++ 39 ∷ []) none) c.loop-components.invariant.bytes) c.put-2.ensures.bytes

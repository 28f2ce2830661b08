use Rattle.std.proofs.Common.{◌<◌, ◌≤◌, [], ◌∷◌, ◌++◌, subst, refl}
use Rattle.std.specs.List.{flat_map}
use Rattle.edi_segments.specs.Segment.{element_at}
use Rattle.edi_segments.specs.SegmentRef.{segment_in}
use Rattle.edi_tokens.specs.Text.{element_text}
use Rattle.edi_tokens.proofs.Appended.{appended, ended, ended_by, kept_as, kept_more, kept_still, kept_through}
use Rattle.edi_tokens.proofs.appending.append_parts.Goals as goal

pub loop-element-preserved : goal.loop-element-preserved
loop-element-preserved c =
    let elements = (segment_in c.args.segment.now).elements in
    let i = c.loop-element.element in
    record {
      text =
          appended element_text elements i (element_at elements i) [] c.loop-element.out.items c.append_element.new.out.items _
          (subst (λ n. i < n) c.elements-element-end.ensures c.loop-element-test.true) refl c.loop-element.invariant.text
          c.in_ok-append_element.ensures.ok;
      kept =
          kept_through c.args.out.now.items c.loop-element.out.items c.append_element.new.out.items c.loop-element.invariant.kept
          c.in_ok-append_element.ensures.kept;
    }

pub returns-in_err-extend_from_slice-clause-kept : goal.returns-in_err-extend_from_slice-clause-kept
returns-in_err-extend_from_slice-clause-kept c =
    kept_as c.args.out.now.items c.extend_from_slice.new.self.items c.in_err-extend_from_slice.ensures.items

pub returns-in_err-append_element-clause-kept : goal.returns-in_err-append_element-clause-kept
returns-in_err-append_element-clause-kept c =
    kept_through c.args.out.now.items c.loop-element.out.items c.append_element.new.out.items c.loop-element.invariant.kept
    c.in_err-append_element.ensures.kept

pub returns-in_err-push-clause-kept : goal.returns-in_err-push-clause-kept
returns-in_err-push-clause-kept c =
    kept_still _ c.loop-element.out.items c.push.new.self.items c.loop-element.invariant.kept c.in_err-push.ensures.items

pub returns-clause-kept : goal.returns-clause-kept
returns-clause-kept c =
    kept_more _ c.loop-element.out.items (39 ∷ []) c.push.new.self.items c.loop-element.invariant.kept c.in_ok-push.ensures.items

pub returns-clause-ok : goal.returns-clause-ok
returns-clause-ok c =
    let segment = segment_in c.args.segment.now in
    let out = c.loop-element.out.items in
    ended_by out c.args.out.now.items (segment.tag ++ flat_map element_text segment.elements) (39 ∷ []) c.push.new.self.items
    (ended element_text segment.elements c.loop-element.element out c.args.out.now.items
    (segment.tag ++ flat_map element_text segment.elements)
    (subst (λ n. n ≤ c.loop-element.element) c.elements-element-end.ensures c.loop-element-test.false) c.loop-element.invariant.text)
    c.in_ok-push.ensures.items

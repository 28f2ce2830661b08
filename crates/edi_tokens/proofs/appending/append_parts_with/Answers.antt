use Rattle.std.proofs.Common.{◌<◌, ◌≤◌, [], ◌∷◌, ◌++◌, length, subst, sym, ap, ◌∙◌}
use Rattle.std.specs.List.{flat_map}
use Rattle.edi_segments.specs.Segment.{element_at}
use Rattle.edi_segments.specs.SegmentRef.{segment_in}
use Rattle.edi_tokens.specs.Text.{element_text}
use Rattle.edi_tokens.specs.Appending.{KeepsFront, elements_with, with_first}
use Rattle.edi_tokens.proofs.Appended.{all_elements, appended, element_beside, element_with, ended, ended_by}
use Rattle.edi_tokens.proofs.Appended.{kept_as, kept_more, kept_still, kept_through}
use Rattle.edi_tokens.proofs.appending.append_parts_with.Goals as goal
use Rattle.edi_tokens.proofs.appending.append_parts_with.Goals.{then-element-place+in_ok-append_element_with}
use Rattle.edi_tokens.proofs.appending.append_parts_with.Goals.{else-element-place+in_ok-append_element}

pub loop-element-preserved : goal.loop-element-preserved
loop-element-preserved c =
    let elements = (segment_in c.args.segment.now).elements in
    let first = c.args.first.now in
    let place = c.args.place in
    let i = c.loop-element.element in
    let out = c.loop-element.out.items in
    let within : i < length elements = subst (λ n. i < n) c.elements-element-end.ensures c.loop-element-test.true in
    let among : i < length (elements_with elements place first) = subst (λ n. i < n) (sym (all_elements elements place first)) within in
    elim c.if-element-place.branch [
      | then-element-place+in_ok-append_element_with w ↦
          record {
            text =
                appended element_text (elements_with elements place first) i (with_first (element_at elements i) first) [] out
                c.if-element-place.out.items _ among
                (element_with elements place i first w.if-element-place.true within) c.loop-element.invariant.text
                (ap (λ new. new.items) w.out-is ∙ w.in_ok-append_element_with.ensures.ok);
            kept =
                kept_through c.args.out.now.items out c.if-element-place.out.items c.loop-element.invariant.kept
                (subst (λ new. KeepsFront out new.items) (sym w.out-is) w.in_ok-append_element_with.ensures.kept);
          }
      | else-element-place+in_ok-append_element w ↦
          record {
            text =
                appended element_text (elements_with elements place first) i (element_at elements i) [] out
                c.if-element-place.out.items _ among
                (element_beside elements place i first w.if-element-place.false) c.loop-element.invariant.text
                (ap (λ new. new.items) w.out-is ∙ w.in_ok-append_element.ensures.ok);
            kept =
                kept_through c.args.out.now.items out c.if-element-place.out.items c.loop-element.invariant.kept
                (subst (λ new. KeepsFront out new.items) (sym w.out-is) w.in_ok-append_element.ensures.kept);
          }
    ]

pub returns-in_err-extend_from_slice-clause-kept : goal.returns-in_err-extend_from_slice-clause-kept
returns-in_err-extend_from_slice-clause-kept c =
    kept_as c.args.out.now.items c.extend_from_slice.new.self.items c.in_err-extend_from_slice.ensures.items

pub returns-in_err-append_element_with-clause-kept : goal.returns-in_err-append_element_with-clause-kept
returns-in_err-append_element_with-clause-kept c =
    kept_through c.args.out.now.items c.loop-element.out.items c.append_element_with.new.out.items c.loop-element.invariant.kept
    c.in_err-append_element_with.ensures.kept

pub returns-in_err-append_element-clause-kept : goal.returns-in_err-append_element-clause-kept
returns-in_err-append_element-clause-kept c =
    kept_through c.args.out.now.items c.loop-element.out.items c.append_element.new.out.items c.loop-element.invariant.kept
    c.in_err-append_element.ensures.kept

pub returns-in_err-push-clause-kept : goal.returns-in_err-push-clause-kept
returns-in_err-push-clause-kept c =
    kept_still _ c.loop-element.out.items c.push.new.self.items c.loop-element.invariant.kept c.in_err-push.ensures.items

pub returns-clause-kept : goal.returns-clause-kept
returns-clause-kept c =
    kept_more _ c.loop-element.out.items (39 ∷ []) c.push.new.self.items c.loop-element.invariant.kept c.in_ok-push.ensures.items

pub returns-clause-ok : goal.returns-clause-ok
returns-clause-ok c =
    let segment = segment_in c.args.segment.now in
    let elements = elements_with segment.elements c.args.place c.args.first.now in
    let out = c.loop-element.out.items in
    let all : length segment.elements ≤ c.loop-element.element =
    subst (λ n. n ≤ c.loop-element.element) c.elements-element-end.ensures c.loop-element-test.false in
    ended_by out c.args.out.now.items (segment.tag ++ flat_map element_text elements) (39 ∷ []) c.push.new.self.items
    (ended element_text elements c.loop-element.element out c.args.out.now.items (segment.tag ++ flat_map element_text elements)
    (subst (λ n. n ≤ c.loop-element.element) (sym (all_elements segment.elements c.args.place c.args.first.now)) all)
    c.loop-element.invariant.text) c.in_ok-push.ensures.items
